pub mod Parameters
pub mod Pieces
pub mod Writes
pub mod Finds
