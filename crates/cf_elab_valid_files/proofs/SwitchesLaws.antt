pub mod Braces
pub mod Cores
pub mod Labels
pub mod Scoped
pub mod Switches
