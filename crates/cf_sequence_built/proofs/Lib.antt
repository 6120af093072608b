pub mod Named
pub mod TypeLaws
pub mod Walks
