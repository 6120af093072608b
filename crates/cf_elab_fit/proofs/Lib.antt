pub mod Converted
pub mod FitLaws
pub mod NoUser
pub mod Opened
pub mod ReadLaws
pub mod Stepped
pub mod TruthLaws
