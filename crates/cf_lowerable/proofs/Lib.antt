pub mod Joins
pub mod Units
