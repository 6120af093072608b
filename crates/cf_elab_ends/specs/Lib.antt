pub mod Linked
pub mod Results
