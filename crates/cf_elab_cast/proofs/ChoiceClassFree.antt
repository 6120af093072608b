-- What the crates above take of `cf_elab_choice`.
pub use Rattle.cf_elab_arith.proofs.ChoiceLaws.ClassFree.{no_class}
