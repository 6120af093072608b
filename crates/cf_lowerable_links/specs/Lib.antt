pub mod Fits
pub mod Meant
