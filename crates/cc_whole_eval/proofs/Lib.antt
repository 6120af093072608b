pub mod Acts
pub mod Converted
pub mod Sizes
pub mod ValueLaws
