-- The declared functions by their names.
use Rattle.std.specs.Prelude.{◌≡◌, ℕ, ◌+◌, List, [], ◌∷◌, Some, slice_get}
use Rattle.std.specs.Option.{option_map}
use Rattle.cf_lookup.specs.Scope.{OpenScopes, named_in}
use Rattle.cf_elab.specs.Env.{Name, FunctionEntry}

-- their names, each with its number, which counts up from this one
abbrev pub numbered : ℕ → List FunctionEntry → List (Name × ℕ)
numbered n [] = []
numbered n (f ∷ fs) = (f.name, n) ∷ numbered (n + 1) fs

-- the numbers of those of a name, in order
abbrev pub numbers_named : Name → List FunctionEntry → List ℕ
numbers_named name fs = named_in name (numbered 0 fs)

-- the function of this number has this name
abbrev pub HasName : List FunctionEntry → ℕ → Name → Type 0
HasName fs n name = option_map (λ (f : FunctionEntry). f.name) (slice_get fs n) ≡ Some name

-- a table has them by their names
pub record TellsEntries (table : OpenScopes) (fs : List FunctionEntry) : Type 0 where
  pub outer : table.outer ≡ []
  pub inner : table.inner ≡ numbered 0 fs
