pub mod Classes
pub mod Heads
pub mod Members
