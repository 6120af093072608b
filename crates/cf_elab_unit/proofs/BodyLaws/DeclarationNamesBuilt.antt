-- What the crates above take of `cf_elab_declaration`.
pub use Rattle.cf_elab_declaration.proofs.DeclarationsLaws.NamesBuilt.{name_plain, no_scopes}
