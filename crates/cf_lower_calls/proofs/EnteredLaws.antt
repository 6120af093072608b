pub mod Parameters
pub mod Source
pub mod Ended
pub mod Alike
pub mod Fitting
pub mod Example
pub mod ExampleNeeds
