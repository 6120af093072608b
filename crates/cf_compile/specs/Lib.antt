pub mod Compiles
pub mod Means
pub mod Steps
pub mod Takes
pub mod Tests
