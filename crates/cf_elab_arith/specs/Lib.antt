pub mod Arith
pub mod Choice
pub mod Unary
