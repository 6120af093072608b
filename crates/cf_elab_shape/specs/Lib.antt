pub mod Shapes
pub mod TypeIds
