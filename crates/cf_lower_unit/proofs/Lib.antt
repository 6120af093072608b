pub mod Bytes
pub mod Helper
pub mod Joined
pub mod Names
pub mod Others
pub mod Stores
pub mod Turns
