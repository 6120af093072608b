pub mod AssignLaws
pub mod BinaryLaws
pub mod OperatorsLaws
