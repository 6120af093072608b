pub mod ArgumentsLaws
pub mod BornLaws
pub mod EnteredLaws
pub mod EvaluatedLaws
pub mod FramesLaws
pub mod InvokedLaws
pub mod LibraryLaws
pub mod ReturnsLaws
