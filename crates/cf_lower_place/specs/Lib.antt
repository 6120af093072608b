pub mod Input
pub mod View
pub mod Leaf
pub mod Calls
pub mod InPlace
pub mod Named
