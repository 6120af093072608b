pub mod Begin
pub mod End
