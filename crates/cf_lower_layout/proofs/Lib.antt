pub mod Characters
pub mod Elements
pub mod Laid
pub mod Order
pub mod Parts
pub mod Sizes
pub mod Types
