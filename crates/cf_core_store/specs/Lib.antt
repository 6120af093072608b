pub mod Acts
pub mod Compared
pub mod Values
