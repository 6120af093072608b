-- What the crates above take of `cf_lower_points`.
pub use Rattle.cf_lower_points.proofs.Alike.{leads-always, leads-on}
pub use Rattle.cf_lower_points.proofs.Standing.{open-set}
pub use Rattle.cf_lower_points.proofs.Placed.{GoesOn, parts-again}
