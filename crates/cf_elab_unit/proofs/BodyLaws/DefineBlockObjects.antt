-- What the crates above take of `cf_elab_define`.
pub use Rattle.cf_elab_declaration.proofs.DeclaratorsLaws.DefineBlockObjects.{block_known}
