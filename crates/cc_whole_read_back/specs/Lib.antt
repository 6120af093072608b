pub mod Memory
pub mod Some
