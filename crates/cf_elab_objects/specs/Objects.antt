pub mod Seen
pub mod Shut
