pub mod BeginLaws
pub mod CheckLaws
pub mod FinishLaws
pub mod FunctionLaws
pub mod HeadLaws
pub mod NameLaws
pub mod ObjectLaws
pub mod Rows
