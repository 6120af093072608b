-- What the crates above take of unary operators.
pub use Rattle.cf_elab_arith.proofs.UnaryLaws.PointerLaws.{unnumbered}
