-- What the crates above take of `cf_elab_declare`.
unfoldable pub use Rattle.cf_elab_declare.specs.Declares.Shut.{no_conflict, no_definition}
