pub mod After
pub mod Leaves
pub mod Narrowing
pub mod Remains
pub mod Setting
pub mod Storing
