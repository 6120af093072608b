-- What the crates above take of `cf_lower_actions`.
pub use Rattle.cf_lower_points.specs.LowerActions.{Fits, StaticObject}
