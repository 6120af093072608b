pub mod Helper
pub mod Behind
