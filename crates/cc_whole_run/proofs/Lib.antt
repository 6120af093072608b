pub mod GoingLaws
pub mod Grows
pub mod Starting
