pub mod Others
pub mod Place
pub mod Roles
