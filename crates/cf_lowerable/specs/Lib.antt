pub mod Remaining
pub mod Tested
