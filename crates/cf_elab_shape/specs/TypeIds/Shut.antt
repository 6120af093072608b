-- The rows of types in brackets and of parameters behind their parts, each under a name of its own that does not unfold. `Rattle.cf_elab_shape.proofs.TypeIdsLaws`
-- says what each is.
use Rattle.std.specs.Prelude.{ℕ, Bool, true, false, List, Option}
use Rattle.cf_elab.specs.Answer.{Elab, ◌>>=◌, ◌>>◌, none_at}
use Rattle.cf_elab.specs.Declarator.{as_object, only_whole}
use Rattle.cf_elab.specs.Shape.{Position, Shape, nowhere, typed, bounds_constant}
use Rattle.cf_elab.specs.Specifiers as specifiers
use Rattle.cf_elab.specs.Specifiers.{Word, gathered, base_type, parameter_conflict, type_conflict}

-- no specifier conflicts with another, else K24
unfoldable pub no_conflict : Option ℕ → Elab (Unit {0})
no_conflict at = none_at at 24

-- a type in brackets
unfoldable pub type_behind : List Word → Shape → Elab ℕ
type_behind ws s = do
  none_at (type_conflict (gathered ws)) 24
  base ← base_type (gathered ws)
  t ← typed nowhere s base
  bounds_constant s
  only_whole t

-- whether `auto` or `register` is among the words
unfoldable pub is_stored : List Word → Bool
is_stored ws = specifiers.is_stored (gathered ws)

-- where an array bound may be left out
abbrev pub of_parameter : Position
of_parameter = record { unbounded = true; const_function = false }

-- the type of a parameter
unfoldable pub parameter_behind : List Word → Shape → Elab ℕ
parameter_behind ws s = do
  none_at (parameter_conflict (gathered ws)) 24
  base ← base_type (gathered ws)
  t ← typed of_parameter s base
  bounds_constant s
  as_object t
