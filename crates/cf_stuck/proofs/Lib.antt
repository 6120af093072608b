pub mod Elements
pub mod Quiet
pub mod Whole
