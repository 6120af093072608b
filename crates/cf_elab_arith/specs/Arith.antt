pub mod Shut
pub mod Sorts
pub mod FitShut
