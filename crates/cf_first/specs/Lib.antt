pub mod First
pub mod Reads
pub mod Steps
