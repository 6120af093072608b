pub mod Asked
pub mod Shut
pub mod UnaryShut
