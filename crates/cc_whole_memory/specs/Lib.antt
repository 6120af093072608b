pub mod Blocks
pub mod Cells
pub mod Lists
pub mod Pointers
pub mod Store
pub mod Values
