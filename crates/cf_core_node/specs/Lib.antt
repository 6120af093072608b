pub mod Defined
pub mod Formed
pub mod Gives
pub mod Known
pub mod Nodes
