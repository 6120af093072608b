pub mod Knowing
pub mod Sites
pub mod Stored
