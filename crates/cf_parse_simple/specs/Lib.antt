pub mod Constructors
pub mod Declarators
pub mod Enumerations
pub mod Simple
pub mod Specifiers
