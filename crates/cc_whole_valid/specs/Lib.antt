pub mod Checking
pub mod CheckingItems
pub mod Labels
pub mod Memory
pub mod Typing
pub mod Walk
