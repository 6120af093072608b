pub mod Bodies
pub mod Inits
