-- The names of a file as plain data.
use Rattle.std.specs.Prelude.{List}
use Rattle.cf_syntax.specs.declared.type_names.ClassNames.{ClassNames}
use Rattle.cf_syntax.specs.declared.type_names.Entry.{Entry}
use Rattle.cf_syntax.specs.declared.type_names.Scope.{Scope}

-- the classes by their numbers, the names of the file's scope, and the open scopes inside it, the innermost last
pub record Names : Type 0 where
  pub classes : List ClassNames
  pub file : List Entry
  pub inner : List Scope
