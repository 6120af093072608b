pub mod Declarators
pub mod Entering
pub mod Enumerations
pub mod Functions
pub mod Places
pub mod Rows
pub mod Words
