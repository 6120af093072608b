-- What is known while a file is read.
use Rattle.std.specs.Prelude.{ℕ, List, [], ◌++◌, Option, None, drop, length}
use Rattle.cf_syntax.specs.declared.type_names.Scope.TheVariants as scope
use Rattle.cf_syntax.specs.NamesData.{Names}
pub use Rattle.cf_syntax.specs.Closing.{closed_to}
use Rattle.cf_syntax.specs.Names.{with_scope}
use Rattle.cf_unit.specs.Rule.{Bodies, at_once}

-- the names of the open scopes, how bodies are read, and the name of the class whose members are read
pub record Known : Type 0 where
  pub names : Names
  pub bodies : Bodies
  pub own : Option (List ℕ)

abbrev pub with_names : Known → Names → Known
with_names k names = record { names = names; bodies = k.bodies; own = k.own }

-- what is known in a block: no class's members are read there, and bodies where they stand
abbrev pub in_block : Names → Known
in_block names = record { names = names; bodies = at_once; own = None }

-- how many scopes are open inside the file's
abbrev pub open_scopes : Names → ℕ
open_scopes names = length names.inner

-- the names with a new scope
abbrev pub with_block : Names → Names
with_block names = with_scope names (scope.Block [])

-- the names for a body that is read late: those known at the end of the outermost class, in the scopes that are open inside that class at the body
abbrev pub late_names : Names → Names → Names
late_names end here = record { classes = end.classes; file = end.file; inner = end.inner ++ drop (length end.inner) here.inner }
