pub mod Entries
pub mod Forms
pub mod FunctionLaws
pub mod Items
pub mod KindLaws
pub mod References
pub mod Scalars
pub mod SizeLaws
