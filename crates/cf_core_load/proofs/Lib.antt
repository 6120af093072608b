pub mod FileLaws
pub mod Knowing
pub mod Loading
pub mod Passing
