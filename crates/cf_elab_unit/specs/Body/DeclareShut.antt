-- What the crates above take of `cf_elab_declare`.
unfoldable pub use Rattle.cf_elab_declaration.specs.Declarators.DeclareShut.{no_definition}
