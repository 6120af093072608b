pub mod Table
pub mod Operators
