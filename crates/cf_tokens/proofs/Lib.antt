pub mod Cuts
pub mod Literals
pub mod Longest
pub mod Numbers
pub mod Prefixes
pub mod Tables
pub mod Unique
pub mod Units
