-- What the crates above take of `cf_elab_declare`.
pub use Rattle.cf_elab_declare.proofs.DeclaresLaws.NameLaws.{is_identifier, unqualified_is}
