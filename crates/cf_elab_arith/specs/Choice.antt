pub mod Asked
pub mod Shut
