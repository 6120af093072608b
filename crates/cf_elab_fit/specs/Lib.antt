pub mod Shut
pub mod Steps
pub mod NumbersNumbers
