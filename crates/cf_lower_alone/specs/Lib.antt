pub mod Linked
pub mod Programs
pub mod Starts
pub mod Added
