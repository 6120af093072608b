pub mod Costed
pub mod Bound
