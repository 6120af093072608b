pub mod Operands
pub mod Shut
