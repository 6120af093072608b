pub mod Answers
pub mod Bytes
pub mod Earlier
pub mod Rules
pub mod Start
