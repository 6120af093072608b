pub mod Direct
pub mod Keeping
pub mod References
pub mod Shut
