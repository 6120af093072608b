pub mod Files
pub mod Firsts
pub mod Forms
pub mod Turns
