pub mod Shut
pub mod DeclarationShut
pub mod ExprShut
pub mod DeclareShut
pub mod CallSignatures
