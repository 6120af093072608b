pub mod Link
pub mod Placed
pub mod Rename
pub mod Static
