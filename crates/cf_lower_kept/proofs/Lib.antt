pub mod Actions
mod OpenedRows
mod ReadyRows
pub mod Operands
pub mod Statements
pub mod Turns
pub mod Types
