-- What the crates above take of `cf_elab_expr`.
pub use Rattle.cf_elab_expr.proofs.Parts.{parameter, type_of}
