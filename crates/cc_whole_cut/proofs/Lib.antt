pub mod Runs
pub mod Words
pub mod Lines
pub mod Fronts
pub mod Found
pub mod Strings
pub mod Firsts
pub mod Cuts
