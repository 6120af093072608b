pub mod Contents
pub mod Fits
pub mod Library
pub mod Labels
