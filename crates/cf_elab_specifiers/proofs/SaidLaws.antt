pub mod BaseLaws
pub mod Folding
pub mod NamedLaws
