pub mod Answers
pub mod Constants
pub mod Conversion
pub mod Laws
pub mod Scene
pub mod Sorts
pub mod Statements
