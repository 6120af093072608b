-- What the crates above take of `cf_elab_fit`.
unfoldable pub use Rattle.cf_elab_fit.specs.Shut.{converted, plain, to_kind, user_truth}
