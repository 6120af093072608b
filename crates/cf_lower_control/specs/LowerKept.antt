-- What the crates above take of `cf_lower`.
pub use Rattle.cf_lower.specs.Kept.{Keeping, after, is_argument, type_of_local}
