pub mod Given
pub mod Linked
