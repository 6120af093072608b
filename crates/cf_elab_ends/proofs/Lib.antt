pub mod AimLaws
pub mod NameLaws
