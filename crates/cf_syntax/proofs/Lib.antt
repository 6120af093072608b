pub mod Binaries
pub mod Declarators
pub mod Good
pub mod Inner
pub mod Keeps
pub mod Newest
pub mod Opening
pub mod Operands
pub mod Repeats
mod Samples
pub mod Table
pub mod Tails
pub mod Unaries
pub mod Under
pub mod Whole
