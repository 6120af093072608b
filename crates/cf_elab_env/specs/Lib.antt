pub mod Answered
pub mod Entries
pub mod Holds
pub mod Seen
pub mod SeenEnv
pub mod SeenOperand
pub mod Shut
