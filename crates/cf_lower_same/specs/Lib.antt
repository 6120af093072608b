pub mod Alike
pub mod Literals
