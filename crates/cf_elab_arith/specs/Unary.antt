pub mod Fixed
pub mod Shut
