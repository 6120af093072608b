pub mod Invoking
pub mod LowerPoints
pub mod LowerActions
