pub mod LinksLaws
pub mod ObjectsLaws
