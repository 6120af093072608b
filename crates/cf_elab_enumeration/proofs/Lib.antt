pub mod CheckLaws
pub mod DeclareLaws
pub mod NewLaws
