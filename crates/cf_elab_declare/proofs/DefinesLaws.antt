pub mod BlockObjects
pub mod BoundLaws
pub mod FileLaws
pub mod LocalLaws
pub mod Rows
pub mod StaticLaws
