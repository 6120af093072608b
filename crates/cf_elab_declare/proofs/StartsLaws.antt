pub mod CarryLaws
pub mod StartLaws
pub mod Weights
pub mod WrittenLaws
