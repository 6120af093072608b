-- What the crates above take of `cf_lower`.
pub use Rattle.cf_lower.specs.Statements.{Inside, flag_set, lowered}
