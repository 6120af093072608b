pub mod Named
pub mod Set
