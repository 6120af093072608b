pub mod Streams
pub mod Taking
