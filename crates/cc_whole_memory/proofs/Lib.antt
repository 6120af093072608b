pub mod BlockLaws
pub mod CellLaws
