pub mod Answered
pub mod Greatest
pub mod Keeping
pub mod Once
