pub mod First
pub mod Room
pub mod Table
pub mod Walk
