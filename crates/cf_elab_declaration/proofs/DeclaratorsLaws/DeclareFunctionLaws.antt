-- What the crates above take of `cf_elab_declare`.
pub use Rattle.cf_elab_declare.proofs.DeclaresLaws.FunctionLaws.{function_grown, types_grown}
