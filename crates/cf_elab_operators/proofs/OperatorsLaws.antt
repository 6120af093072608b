pub mod NoObject
pub mod OneLaws
pub mod TwoLaws
