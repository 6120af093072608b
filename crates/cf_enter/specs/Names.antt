-- Names that may be there.
use Rattle.std.specs.Prelude.{◌≡◌, ℕ, List, [], ◌∷◌, Option, Some, None, Result, Ok, Err}
use denote.Ref.{Bor}

-- a name, if there is one, as a list
abbrev pub named_as : Option (Bor (List ℕ)) → List (List ℕ) → Type 0
named_as None names = names ≡ []
named_as (Some n) names = names ≡ n.now ∷ []

-- a value, and what something else is then; nothing is said after a want of memory
abbrev pub both : {A B E : Type 0} → Result A E → B → A → B → Type 0
both (Ok a) b x y = (a ≡ x) × (b ≡ y)
both (Err e) b x y = Unit
