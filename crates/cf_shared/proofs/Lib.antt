pub mod Indices
pub mod Lists
