pub mod Leading
pub mod LowerActions
pub mod BoundsPoints
pub mod BoundsBounds
