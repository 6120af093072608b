pub mod ArgumentLaws
pub mod CastLaws
pub mod Compared
pub mod EnumNames
pub mod FormLaws
pub mod Functions
pub mod MadeLaws
pub mod ChoiceClassFree
