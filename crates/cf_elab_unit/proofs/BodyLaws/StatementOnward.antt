-- What the crates above take of `cf_elab_statement`.
pub use Rattle.cf_elab_statement.proofs.Onward.{onward-assoc, onward-same}
