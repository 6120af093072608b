pub mod Forms
pub mod Shut
pub mod ExprShut
pub mod CallSignatures
