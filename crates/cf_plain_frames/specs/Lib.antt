pub mod Simple
pub mod Since
