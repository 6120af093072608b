pub mod ClassRows
pub mod ConversionRows
pub mod CoreRows
pub mod LimitRows
pub mod OrderRows
pub mod PlaceRows
pub mod StatementRows
pub mod Words
