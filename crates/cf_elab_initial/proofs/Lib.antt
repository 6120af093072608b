pub mod InitialsLaws
pub mod ListsLaws
