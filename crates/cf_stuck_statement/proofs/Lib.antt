pub mod Kept
pub mod Past
pub mod Quiet
pub mod Stuck
pub mod Turns
