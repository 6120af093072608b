pub mod Blocks
pub mod Objects
pub mod Caller
