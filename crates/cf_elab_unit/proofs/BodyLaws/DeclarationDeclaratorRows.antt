-- What the crates above take of `cf_elab_declaration`.
pub use Rattle.cf_elab_declaration.proofs.DeclarationsLaws.DeclaratorRows.{stops_onward, type_grown_if}
