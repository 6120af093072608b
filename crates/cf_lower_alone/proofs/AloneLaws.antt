pub mod Items
pub mod Placed
pub mod After
pub mod Values
pub mod Statements
pub mod Statics
pub mod Once
pub mod Names
pub mod Functions
pub mod Variables
pub mod Main
pub mod Exits
pub mod Uses
pub mod Alone
mod Rows
