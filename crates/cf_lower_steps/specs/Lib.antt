pub mod Steps
pub mod Own
pub mod Flows
pub mod Lowering
pub mod Moment
