pub mod BindingLaws
pub mod Direct
pub mod InitialLaws
pub mod KeepingLaws
