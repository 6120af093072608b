pub mod Seen
pub mod Shut
pub mod CallSignatures
