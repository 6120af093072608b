pub mod Begun
pub mod Headed
pub mod Shut
