pub mod Forms
pub mod Given
pub mod Same
pub mod Shut
pub mod ChoiceShut
