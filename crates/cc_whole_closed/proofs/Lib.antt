mod Closing
mod Items
mod Kept
pub mod Plains
pub mod Renamed
mod Uses
