pub mod Body
pub mod Definitions
pub mod Unit
