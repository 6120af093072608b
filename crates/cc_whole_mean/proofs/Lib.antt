pub mod Enough
pub mod Growth
mod Small
mod Tried
mod TriedCalls
