pub mod Computed
pub mod Equality
pub mod Places
pub mod Tables
