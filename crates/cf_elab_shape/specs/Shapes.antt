pub mod Holds
pub mod Seen
pub mod Shut
