pub mod Flags
pub mod Following
pub mod Literals
