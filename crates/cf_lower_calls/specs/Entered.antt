pub mod Linked
pub mod Bodies
pub mod Lowered
