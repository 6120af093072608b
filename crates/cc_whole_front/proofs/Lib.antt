pub mod Laws
pub mod Only
pub mod Places
pub mod Turns
