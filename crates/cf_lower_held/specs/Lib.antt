pub mod Holds
pub mod Scenes
