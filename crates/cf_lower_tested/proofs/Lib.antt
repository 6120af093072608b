pub mod Calls
pub mod Leaves
pub mod Functions
pub mod Signatures
pub mod More
pub mod Results
pub mod Named
pub mod Files
pub mod RenamedTold
pub mod RenamedOpen
pub mod RenamedPlace
pub mod Joined
mod Rows
