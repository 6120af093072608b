pub mod NamedLaws
pub mod SaidLaws
