-- What names stand for, and what initialisers give.
use Rattle.std.specs.Prelude.{ℕ, []}
use Rattle.cf_core.specs.Places.{Place, is_scalar}
use Rattle.cf_core.specs.Store.{Value}
use Rattle.cf_core.specs.Run.{Act, ◌>>=◌, malformed, state, when}
use Rattle.cf_core.specs.Access.{used, place_type, followed, bound_to, first_value}
use Rattle.cf_core.specs.Objects.{local_place}

-- an object gets its first value
abbrev pub settled_value : Place → Value → Act (Unit {0})
settled_value p v = do
  s ← state
  when (is_scalar (place_type [] s p)) (used v >>= first_value p) malformed

-- what the name of a parameter or local stands for
abbrev pub named : ℕ → Act Value
named i = local_place i >>= followed []

abbrev pub bound_by : Act Value → Act Value
bound_by act = act >>= bound_to
