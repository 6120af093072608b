pub mod JumpLaws
pub mod LabelLaws
pub mod LoopLaws
pub mod Onward
pub mod Rows
pub mod SimpleLaws
pub mod SwitchLaws
