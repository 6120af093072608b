-- What the crates above take of `cf_elab_call`.
pub use Rattle.cf_elab_declaration.proofs.EnumsLaws.CallSignatureLaws.{first_known, function_result, function_result_known, no_result}
