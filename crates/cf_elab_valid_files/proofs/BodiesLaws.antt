pub mod Bodies
pub mod Initial
