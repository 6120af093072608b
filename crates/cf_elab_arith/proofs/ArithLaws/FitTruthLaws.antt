-- What the crates above take of `cf_elab_fit`.
pub use Rattle.cf_elab_fit.proofs.TruthLaws.{no_class_sort}
