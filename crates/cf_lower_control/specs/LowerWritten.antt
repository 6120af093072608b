-- What the crates above take of `cf_lower`.
pub use Rattle.cf_lower.specs.Written.{flag_name, int_constant, result_name}
