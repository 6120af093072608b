pub mod Meets
pub mod Same
