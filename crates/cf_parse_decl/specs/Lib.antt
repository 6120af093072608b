pub mod BodiesSeen
pub mod Initialisers
pub mod Insides
pub mod Nests
pub mod Reads
pub mod Statements
pub mod Trial
