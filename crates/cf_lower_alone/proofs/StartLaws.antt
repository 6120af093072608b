pub mod Statics
pub mod Texts
pub mod Start
pub mod Numbered
pub mod Owners
pub mod Initialisers
