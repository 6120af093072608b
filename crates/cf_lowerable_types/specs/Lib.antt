pub mod Kinds
pub mod Types
