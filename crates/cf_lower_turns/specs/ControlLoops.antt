-- What the crates above take of `cf_lower_control`.
pub use Rattle.cf_lower_control.specs.Loops.{IsReturn}
