pub mod Shut
pub mod DeclareShut
pub mod DefineReached
