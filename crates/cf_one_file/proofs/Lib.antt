pub mod Mains
pub mod Meanings
pub mod Runs
pub mod Units
