pub mod AssignmentLaws
pub mod CombinedLaws
pub mod UpdatedLaws
