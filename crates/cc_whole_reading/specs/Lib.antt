pub mod Parse
pub mod Constants
pub mod Magnitude
