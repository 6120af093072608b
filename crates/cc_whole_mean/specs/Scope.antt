-- What the names in scope stand for.
use Rattle.std.specs.Prelude.{ℕ, suc, if◌then◌else◌, List, [], ◌∷◌, Option, Some, None, bytes_eq, map}
use Rattle.cc_whole.specs.declared.statement.CLocal.{CLocal}
use Rattle.cc_whole.specs.declared.unit.CParameter.{CParameter}
use Rattle.cc_whole.specs.declared.unit.CVariable.{CVariable}
use Rattle.cc_whole.specs.Plain.{Function}
use Rattle.cc_whole_mean.specs.declared.named.Named.{Named}
use Rattle.cc_whole_mean.specs.declared.named.Named.TheVariants.{Variable as variable, Function as function}
use Rattle.cc_whole_mean.specs.declared.named.Shape.TheVariants.{Single as single}
use Rattle.cc_whole_mean.specs.Types.{scalar_of, local_shape, variable_shape}

abbrev pub Scope : Type 0
Scope = List ℕ → Option Named

abbrev pub no_names : Scope
no_names name = None

abbrev pub bind : List ℕ → Named → Scope → Scope
bind name meant scope x = if bytes_eq x name then Some meant else scope x

-- variables that stand in blocks from this number on; a later name hides an equal earlier one
abbrev pub bind_locals : List CLocal → ℕ → Scope → Scope
bind_locals [] b scope = scope
bind_locals (x ∷ xs) b scope = bind_locals xs (suc b) (bind x.name (variable b (local_shape x.ty)) scope)

abbrev pub bind_parameters : List CParameter → ℕ → Scope → Scope
bind_parameters [] b scope = scope
bind_parameters (x ∷ xs) b scope = bind_parameters xs (suc b) (bind x.name (variable b (single (scalar_of x.ty))) scope)

abbrev pub bind_variables : List CVariable → ℕ → Scope → Scope
bind_variables [] b scope = scope
bind_variables (x ∷ xs) b scope = bind_variables xs (suc b) (bind x.name (variable b (variable_shape x.ty)) scope)

-- functions have numbers from 1, in order
abbrev pub bind_functions : List (List ℕ) → ℕ → Scope → Scope
bind_functions [] i scope = scope
bind_functions (name ∷ names) i scope = bind_functions names (suc i) (bind name (function i) scope)

abbrev pub function_names : List Function → List (List ℕ)
function_names fs = map (λ (f : Function). f.prototype.name) fs
