pub mod Declares
pub mod Defines
pub mod Starts
