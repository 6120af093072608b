pub mod Turns
pub mod Firsts
pub mod OperatorLaws
pub mod OperandLaws
pub mod OperandReads
pub mod ExpressionLaws
pub mod AlikeExpressions
