pub mod Arguments
pub mod Born
pub mod Entered
pub mod Evaluated
pub mod Frames
pub mod Invoked
pub mod Library
pub mod Returns
