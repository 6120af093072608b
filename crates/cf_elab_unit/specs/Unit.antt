pub mod First
pub mod Shut
