pub mod Known
pub mod Loops
pub mod NameLaws
mod Naming
pub mod NodeLaws
mod NodeRows
