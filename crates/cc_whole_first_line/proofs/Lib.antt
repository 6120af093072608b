pub mod FirstLines
pub mod Shorter
mod Values
