pub mod Kept
pub mod Written
pub mod Expressions
pub mod Statements
pub mod Constants
pub mod Functions
