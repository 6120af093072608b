pub mod Bodies
pub mod Definitions
pub mod Ends
pub mod Hands
pub mod Parameters
pub mod Shaped
