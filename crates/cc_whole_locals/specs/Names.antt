-- The names of C locals and parameters, one after another.
use Rattle.std.specs.Prelude.{Bool, true, ◌&&◌, not, ℕ, List, [], ◌∷◌, bytes_eq}
use Rattle.std.specs.List.{list_any}
use Rattle.cc_whole.specs.declared.statement.CLocal.{CLocal}
use Rattle.cc_whole.specs.declared.unit.CParameter.{CParameter}

-- whether one has this name
abbrev pub is_local : List ℕ → List CLocal → Bool
is_local name xs = list_any (λ (x : CLocal). bytes_eq name x.name) xs

abbrev pub is_parameter : List ℕ → List CParameter → Bool
is_parameter name xs = list_any (λ (x : CParameter). bytes_eq name x.name) xs

-- no name stands twice
abbrev pub locals_differ : List CLocal → Bool
locals_differ [] = true
locals_differ (x ∷ xs) = not (is_local x.name xs) && locals_differ xs

abbrev pub parameters_differ : List CParameter → Bool
parameters_differ [] = true
parameters_differ (x ∷ xs) = not (is_parameter x.name xs) && parameters_differ xs
