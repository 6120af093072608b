pub mod Acts
pub mod Values
pub mod Calls
pub mod Statements
