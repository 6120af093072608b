pub mod Assign
pub mod Binary
pub mod Operators
