pub mod Arrays
pub mod Files
pub mod Frames
pub mod Linked
pub mod Names
pub mod Starting
