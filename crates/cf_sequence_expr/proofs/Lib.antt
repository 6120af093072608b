pub mod ArgumentLaws
pub mod Counting
pub mod LoopLaws
