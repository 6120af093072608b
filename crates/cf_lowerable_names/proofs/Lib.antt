pub mod Among
pub mod Files
pub mod Parts
pub mod Turns
