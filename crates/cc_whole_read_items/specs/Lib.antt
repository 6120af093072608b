pub mod Answers
pub mod ReadItems
pub mod Passes
