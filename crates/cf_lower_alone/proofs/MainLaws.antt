pub mod Status
pub mod Entering
pub mod Whole
pub mod Outcome
