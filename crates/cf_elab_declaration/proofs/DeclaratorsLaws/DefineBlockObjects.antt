-- What the crates above take of `cf_elab_define`.
pub use Rattle.cf_elab_declare.proofs.DefinesLaws.BlockObjects.{block_known}
