pub mod Library
pub mod Pointed
