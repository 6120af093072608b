pub mod Meanings
pub mod Objects
pub mod Units
