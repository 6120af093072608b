pub mod Bodies
pub mod Declarations
pub mod File
pub mod Files
pub mod Functions
pub mod Statics
pub mod Switches
