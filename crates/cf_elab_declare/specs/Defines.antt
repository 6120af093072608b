pub mod Reached
pub mod Shut
