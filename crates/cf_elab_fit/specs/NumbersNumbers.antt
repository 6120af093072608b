-- What the crates above take of `cf_elab_numbers`.
pub use Rattle.cf_elab_numbers.specs.Numbers.{NumberOf, TakesRight, both_true, complement, negative, one_true, operated}
