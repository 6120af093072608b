pub mod DeclarationsLaws
pub mod DeclaratorsLaws
pub mod EnumsLaws
pub mod WrittenTreesLaws
