pub mod AccessLaws
pub mod CellLaws
pub mod LogLaws
pub mod MadeLaws
pub mod SiteLaws
pub mod ThenLaws
