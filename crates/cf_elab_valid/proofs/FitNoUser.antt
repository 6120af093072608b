-- What the crates above take of `cf_elab_fit`.
pub use Rattle.cf_elab_fit.proofs.NoUser.{no_user_function}
