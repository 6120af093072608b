pub mod Chosen
pub mod Comes
pub mod Frames
pub mod Running
pub mod Stop
pub mod Switch
