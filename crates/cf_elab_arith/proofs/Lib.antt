pub mod ArithLaws
pub mod ChoiceLaws
pub mod UnaryLaws
