pub mod Expressions
pub mod Initialisers
pub mod Lines
pub mod Statements
pub mod Types
pub mod Units
