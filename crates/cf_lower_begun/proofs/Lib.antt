pub mod Variables
pub mod Zeroed
pub mod Texts
pub mod Begin
mod Rows
