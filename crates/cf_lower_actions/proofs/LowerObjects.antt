-- What the crates above take of `cf_lower_objects`.
pub use Rattle.cf_lower_objects.proofs.Finishing.{destroyed}
