pub mod Files
pub mod Ranks
pub mod Whole
