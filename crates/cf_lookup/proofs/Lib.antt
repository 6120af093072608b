pub mod All
pub mod Finding
