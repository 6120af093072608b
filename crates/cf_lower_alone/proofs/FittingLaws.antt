pub mod Bound
pub mod Simple
pub mod Outer
pub mod Laid
pub mod Sides
pub mod Fits
pub mod Lowered
pub mod Numbers
pub mod Together
mod Rows
