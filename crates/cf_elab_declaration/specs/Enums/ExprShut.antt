-- What the crates above take of `cf_elab_expr`.
unfoldable pub use Rattle.cf_elab_expr.specs.Shut.{IsBuilt, TreeIsBuilt, name_of, shape_of, valued}
pub use Rattle.cf_elab_expr.specs.Shut.{parameter_place, type_place}
