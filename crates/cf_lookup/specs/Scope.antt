-- Scopes of names (3.2).
use Rattle.std.specs.Prelude.{◌≡◌, ℕ, nat_eq, List, [], ◌∷◌, ◌++◌, map, filter, Option, None, unwrap_or}
use Rattle.std.specs.Cmp.Lexicographic.{pointwise}
use Rattle.std.specs.Map.{lookup}
use Rattle.std.specs.Option.{option_or}

-- the open scopes: those around, from the file's own inwards, and the innermost; each has names with their entities, in order of declaration
pub record OpenScopes : Type 0 where
  pub outer : List (List (List ℕ × ℕ))
  pub inner : List (List ℕ × ℕ)

-- what a scope declares the name as
abbrev pub in_scope : List ℕ → List (List ℕ × ℕ) → Option ℕ
in_scope name scope = lookup (pointwise nat_eq name) scope

-- a name stands for what the innermost scope that has it declares it as
abbrev pub found_in : List ℕ → List (List (List ℕ × ℕ)) → Option ℕ
found_in name [] = None
found_in name (scope ∷ inner) = option_or (found_in name inner) (in_scope name scope)

abbrev pub found : List ℕ → OpenScopes → Option ℕ
found name scopes = found_in name (scopes.outer ++ scopes.inner ∷ [])

-- all that a scope declares the name as, in order
abbrev pub named_in : List ℕ → List (List ℕ × ℕ) → List ℕ
named_in name scope = map (λ x. x.1) (filter (λ x. pointwise nat_eq name x.0) scope)

-- all that a name is declared as in the open scopes, the innermost scope first
abbrev pub all_in : List ℕ → List (List (List ℕ × ℕ)) → List ℕ
all_in name [] = []
all_in name (scope ∷ inner) = all_in name inner ++ named_in name scope

abbrev pub all_found : List ℕ → OpenScopes → List ℕ
all_found name scopes = all_in name (scopes.outer ++ scopes.inner ∷ [])

-- the file's own scope
abbrev pub file_scope : OpenScopes → List (List ℕ × ℕ)
file_scope scopes = elim scopes.outer [ [] ↦ scopes.inner | file ∷ rest ↦ file ]

-- what a table has of a name
abbrev pub told : List ℕ → List (List ℕ × List ℕ) → List ℕ
told name table = unwrap_or (lookup (pointwise nat_eq name) table) []

-- a table has of each name all that the scope declares it as
abbrev pub TellsAll : List (List ℕ × List ℕ) → List (List ℕ × ℕ) → Type 0
TellsAll table scope = (name : List ℕ) → told name table ≡ named_in name scope

-- the same of a scope with one name more
abbrev pub StillTells : List (List ℕ × List ℕ) → List (List ℕ × List ℕ) → List ℕ → ℕ → Type 0
StillTells old new name e = (scope : List (List ℕ × ℕ)) → TellsAll old scope → TellsAll new (scope ++ (name, e) ∷ [])

-- the same of each scope as before
abbrev pub TellsAgain : List (List ℕ × List ℕ) → List (List ℕ × List ℕ) → Type 0
TellsAgain old new = (scope : List (List ℕ × ℕ)) → TellsAll old scope → TellsAll new scope
