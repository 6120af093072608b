pub mod Types
pub mod Contents
pub mod Scenes
pub mod Asked
pub mod Given
pub mod Steps
