pub mod Declaring
pub mod Finishing
pub mod First
pub mod Growth
pub mod Naming
