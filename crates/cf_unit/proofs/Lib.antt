pub mod Exact
mod Samples
pub mod Spots
pub mod Whole
