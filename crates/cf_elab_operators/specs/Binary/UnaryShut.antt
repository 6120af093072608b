-- What the crates above take of unary operators.
unfoldable pub use Rattle.cf_elab_arith.specs.Unary.Shut.{increment, need_complete, need_modifiable, prefixed, subscript}
