pub mod Bits
pub mod BodyTurns
pub mod CallTurns
pub mod Counting
pub mod ExpressionSides
pub mod FaultPlaces
pub mod InPlace
pub mod ItemPlaces
pub mod ItemSides
pub mod ItemTurns
mod Rows
pub mod StatementSides
pub mod Stopping
pub mod TreeTurns
pub mod Turns
pub mod TypeTurns
pub mod UnitPlaces
