mod ActRows
mod ClassRows
mod ClassViewRows
mod ControlRows
mod CopyRows
mod DeclarationRows
mod FileRows
mod IllTypedRows
mod NodeRows
mod ObjectRows
pub mod Sample
mod ScalarRows
mod SubobjectRows
mod ValidRows
