pub mod EnumNames
pub mod Functions
pub mod LiteralTypes
pub mod Told
pub mod Types
