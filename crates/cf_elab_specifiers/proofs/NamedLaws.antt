pub mod KeyLaws
pub mod NamedLaws
pub mod PathLaws
pub mod WordLaws
pub mod WordsLaws
