pub mod Asked
pub mod Files
pub mod Forms
pub mod Mains
pub mod Named
pub mod Serves
pub mod Tabled
