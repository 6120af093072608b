pub mod TypeLaws
pub mod SignatureLaws
pub mod VariableLaws
