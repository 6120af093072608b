pub mod Fits
pub mod Known
