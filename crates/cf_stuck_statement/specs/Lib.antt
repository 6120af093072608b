pub mod Finds
pub mod Inside
pub mod Parts
pub mod Searches
pub mod Statements
