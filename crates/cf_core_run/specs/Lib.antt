pub mod Going
pub mod Labels
pub mod Nearer
pub mod Whole
