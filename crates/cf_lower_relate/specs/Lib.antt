pub mod Scalars
pub mod Map
pub mod Relation
