-- Whether one function takes arguments: each is converted to the parameter at its place.
use Rattle.std.specs.Prelude.{ℕ, Bool, true, false, ◌&&◌, List, [], ◌∷◌, is_some}
use Rattle.cf_convert.specs.Converts.{steps}
use Rattle.cf_elab.specs.Env.{Env}
use Rattle.cf_elab.specs.Operand.{Value, val, defs}

unfoldable pub is_converted : Env → Value → ℕ → Bool
is_converted env v p = is_some (steps env.types (defs env) (val v) p)

abbrev pub all_convert : Env → List ℕ → List Value → Bool
all_convert env ps [] = true
all_convert env [] (v ∷ vs) = false
all_convert env (p ∷ ps) (v ∷ vs) = is_converted env v p && all_convert env ps vs
