pub mod Forms
pub mod Fronts
pub mod Known
pub mod Seen
pub mod Shut
