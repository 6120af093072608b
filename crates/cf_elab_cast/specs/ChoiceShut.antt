-- What the crates above take of `cf_elab_choice`.
unfoldable pub use Rattle.cf_elab_arith.specs.Choice.Shut.{conditional, sequence}
