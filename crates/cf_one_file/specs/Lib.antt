pub mod Covered
pub mod Means
