-- What the crates above take of `cf_elab_call`.
unfoldable pub use Rattle.cf_elab_expr.specs.CallSignatures.{result_at}
