pub mod Lists
pub mod Places
pub mod Tests
pub mod Blocks
