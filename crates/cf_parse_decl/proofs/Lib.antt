pub mod Beginnings
pub mod Elements
pub mod Inits
pub mod Read
pub mod Rows
