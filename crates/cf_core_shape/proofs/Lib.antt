pub mod Loops
pub mod Shaped
pub mod TypeLaws
