pub mod Around
pub mod Flags
pub mod Here
pub mod Scene
pub mod Ways
pub mod Texts
pub mod ControlLoops
