pub mod CheckingLaws
pub mod CountingLaws
pub mod DefiningLaws
pub mod MakingLaws
pub mod ExprBuiltForms
pub mod CallSignatureLaws
pub mod ExprParts
