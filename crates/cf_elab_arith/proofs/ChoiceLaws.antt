pub mod AskedLaws
pub mod Chosen
pub mod ClassFree
pub mod Sequences
pub mod Steps
