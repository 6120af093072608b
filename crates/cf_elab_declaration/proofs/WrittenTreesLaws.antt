pub mod BuiltParts
pub mod OutlineLaws
pub mod Several
pub mod TextLaws
pub mod TreeLaws
pub mod TreesKnown
pub mod WrittenRows
