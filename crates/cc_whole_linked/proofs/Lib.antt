mod Agrees
pub mod Alone
mod Identity
pub mod Once
