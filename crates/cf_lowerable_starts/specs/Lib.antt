pub mod Characters
pub mod Heads
pub mod Telling
