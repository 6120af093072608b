pub mod Declarations
pub mod Declarators
pub mod Enums
pub mod WrittenTrees
