pub mod Converted
pub mod Erasing
pub mod Moves
pub mod PlaceLaws
pub mod ValueLaws
