pub mod AliasLaws
pub mod BuiltParts
pub mod DeclarationRows
pub mod DeclaratorRows
pub mod NamesBuilt
pub mod Several
pub mod SpecifierRows
pub mod Worded
