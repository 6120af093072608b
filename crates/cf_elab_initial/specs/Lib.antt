pub mod Initials
pub mod Lists
