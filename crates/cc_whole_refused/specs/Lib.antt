pub mod Fronts
pub mod Invalid
pub mod NotC
