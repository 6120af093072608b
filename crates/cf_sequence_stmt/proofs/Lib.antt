pub mod Pieces
pub mod SwitchLaws
pub mod ListLaws
