pub mod Counts
pub mod ItemMarks
pub mod TreeMarks
pub mod Views
