pub mod Opened
pub mod Ready
pub mod Told
