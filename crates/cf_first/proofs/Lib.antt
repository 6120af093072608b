pub mod OneAnswer
pub mod Reading
