pub mod Acts
pub mod Values
pub mod Objects
pub mod Calls
pub mod Statements
