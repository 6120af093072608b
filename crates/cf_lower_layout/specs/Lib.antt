pub mod Layout
pub mod Sorts
