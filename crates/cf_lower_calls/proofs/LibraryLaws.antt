pub mod Closing
pub mod Passing
pub mod Calls
pub mod Pointed
