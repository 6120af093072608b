-- The tables of a file that defines no class.
use Rattle.std.specs.Prelude.{◌≡◌, ℕ, [], length, Some, slice_get}
use Rattle.cf_types.specs.declared.ty.Ty.{Ty}
use Rattle.cf_types.specs.Table.{Table, Names}
use Rattle.cf_classes.specs.Fit.{Fit}
use Rattle.cf_core.specs.FromTypes.{Tables}

-- each type names types before it alone
abbrev pub IsOrdered : Table → Type 0
IsOrdered types = (i : ℕ) (ty : Ty) → slice_get types.types i ≡ Some ty → Names types.funs i (length types.funs) ty

pub record AreOrdered (tables : Tables) : Type 0 where
  pub names : IsOrdered tables.types
  pub fit : Fit tables.types tables.classes
  pub no_classes : tables.classes.defined ≡ []
