pub mod CallLaws
pub mod ExitLaws
pub mod Marks
pub mod Resume
pub mod StepLaws
