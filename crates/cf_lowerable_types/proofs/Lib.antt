pub mod Characters
pub mod KindSets
pub mod Layers
