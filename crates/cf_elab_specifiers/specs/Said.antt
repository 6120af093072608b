pub mod Seen
pub mod Shut
pub mod Standing
pub mod Words
