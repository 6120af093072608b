pub mod Acts
pub mod Answer
