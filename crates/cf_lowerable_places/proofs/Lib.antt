pub mod Holding
pub mod Giving
pub mod LocalTypes
pub mod Passing
pub mod OperandLaws
pub mod ScalarLaws
pub mod LeafLaws
pub mod LibraryLaws
pub mod CallLaws
pub mod LabelForms
pub mod LabelLaws
pub mod StatementLaws
pub mod Bounded
pub mod FunctionForms
pub mod UnitLaws
mod Rows
pub mod ActionKinds
