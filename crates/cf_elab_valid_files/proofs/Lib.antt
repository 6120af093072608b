pub mod BodiesLaws
pub mod DeclarationsLaws
pub mod FileLaws
pub mod FilesLaws
pub mod FunctionsLaws
pub mod StaticsLaws
pub mod SwitchesLaws
