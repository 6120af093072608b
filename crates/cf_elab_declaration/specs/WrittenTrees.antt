pub mod Given
pub mod Shut
