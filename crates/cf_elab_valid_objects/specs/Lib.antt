pub mod Declared
pub mod Laws
pub mod Quiet
pub mod Starts
