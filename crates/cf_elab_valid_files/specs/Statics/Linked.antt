-- What a name that is declared with linkage stands for (3.3).
use Rattle.std.specs.Prelude.{◌≡◌, ℕ, Some, slice_get}
use Rattle.cf_elab.specs.Env.{Env, Name, Object, object}
use Rattle.cf_elab.specs.Names.{declared_here}

-- the object that the innermost scope has by the name is of this type
abbrev pub StandsFor : Name → ℕ → Env → Type 0
StandsFor name t e = (j : ℕ) (y : Object) → declared_here e name ≡ Some j → slice_get e.entities j ≡ Some (object y) → y.type ≡ t
