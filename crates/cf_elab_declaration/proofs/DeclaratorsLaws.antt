pub mod BoundRows
pub mod KindRows
pub mod NamedRows
pub mod ObjectRows
pub mod RefusedRows
pub mod DeclareFunctionLaws
pub mod DeclareNameLaws
pub mod DefineBlockObjects
