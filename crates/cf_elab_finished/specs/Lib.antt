pub mod Finished
pub mod Laws
pub mod Shut
