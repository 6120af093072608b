pub mod Ready
pub mod Main
pub mod Names
pub mod Whole
pub mod File
