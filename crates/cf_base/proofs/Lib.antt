pub mod Agreement
pub mod IntegerRows
pub mod Tables
pub mod Tests
pub mod Times
