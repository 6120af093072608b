pub mod Carried
pub mod Shut
pub mod Written
