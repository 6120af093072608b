pub mod Callees
pub mod Matching
pub mod Results
pub mod Shut
pub mod Signatures
