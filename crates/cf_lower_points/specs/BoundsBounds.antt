-- What the crates above take of `cf_lower_bounds`.
pub use Rattle.cf_lower_bounds.specs.Bounds.{EndsAt, LeafRunsTo}
