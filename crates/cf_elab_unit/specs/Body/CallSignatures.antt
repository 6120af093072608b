-- What the crates above take of `cf_elab_call`.
unfoldable pub use Rattle.cf_elab_declaration.specs.Enums.CallSignatures.{result_at}
