pub mod DefinedLaws
pub mod LibraryLaws
pub mod LinkageLaws
