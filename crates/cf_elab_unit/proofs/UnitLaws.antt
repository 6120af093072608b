pub mod FileRows
pub mod ItemRows
