pub mod First
pub mod Front
pub mod Inside
pub mod Stray
