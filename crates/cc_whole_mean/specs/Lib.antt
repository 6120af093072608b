pub mod Callee
pub mod Flow
pub mod Library
pub mod Mean
pub mod Scope
pub mod Start
pub mod Types
pub mod Values
