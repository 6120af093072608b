-- The functions of a name by their parameters.
use Rattle.std.specs.Prelude.{ℕ, Bool, false, if◌then◌else◌, List, [], ◌∷◌, Option, None, Some, slice_get}
use Rattle.cf_types.specs.Table.{Table}
use Rattle.cf_classes.specs.TypeTree.{params_of}
use Rattle.cf_elab.specs.Arguments.{fun_at}
use Rattle.cf_elab.specs.Env.{FunctionEntry}
use Rattle.cf_elab.specs.Functions.{same_params}

-- whether it is a function with these parameters
abbrev pub has_params : Table → List ℕ → Option FunctionEntry → Bool
has_params types ps None = false
has_params types ps (Some f) = same_params types ps f.type

-- the first of these numbers whose function has these parameters
abbrev pub by_params : Table → List FunctionEntry → List ℕ → List ℕ → Option ℕ
by_params types fs ps [] = None
by_params types fs ps (n ∷ ns) = if has_params types ps (slice_get fs n) then Some n else by_params types fs ps ns

-- those of this function type
unfoldable pub first_of : Table → List FunctionEntry → ℕ → List ℕ → Option ℕ
first_of types fs t ns = by_params types fs (params_of (fun_at types t)) ns
