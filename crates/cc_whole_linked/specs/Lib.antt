pub mod Alone
pub mod Limited
