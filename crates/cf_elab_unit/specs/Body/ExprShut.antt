-- What the crates above take of `cf_elab_expr`.
unfoldable pub use Rattle.cf_elab_declaration.specs.Enums.ExprShut.{TreeIsBuilt, name_of, shape_of}
