pub mod ShapesLaws
pub mod TypeIdsLaws
