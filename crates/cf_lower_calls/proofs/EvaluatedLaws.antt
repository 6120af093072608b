pub mod Entering
pub mod Evaluating
