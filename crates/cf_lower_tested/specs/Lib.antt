pub mod Fits
pub mod Tested
pub mod Named
