mod CountLaws
pub mod Differ
pub mod ListLaws
