pub mod Frames
pub mod Nodes
pub mod StartLimit
pub mod Sums
