pub mod Sums
pub mod BoundLaws
pub mod Taking
pub mod SizeLaws
pub mod Walked
