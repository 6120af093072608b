-- A part of a core that has a form in the plain program's trees, or the place of the first construct in it that has none. A construct comes before
-- its parts, and parts come in their order.
use Rattle.std.specs.Prelude.{ℕ, Bool, true, false, List, [], ◌∷◌, Option, Some, None, Result, Ok, Err}

abbrev pub Formed : Type 0 → Type 0
Formed A = Result A ℕ

-- what a construct at this place needs, if it is there
abbrev pub placed : {A : Type 0} → ℕ → Option A → Formed A
placed at (Some a) = Ok a
placed at None = Err at

-- where it may stand there
abbrev pub allowed : {A : Type 0} → ℕ → Bool → Formed A → Formed A
allowed at true x = x
allowed at false x = Err at

-- one part, and what it makes of another behind it
abbrev pub after : {A B : Type 0} → Formed A → (A → Formed B) → Formed B
after (Ok a) f = f a
after (Err at) f = Err at

abbrev pub made : {A B : Type 0} → (A → B) → Formed A → Formed B
made f (Ok a) = Ok (f a)
made f (Err at) = Err at

-- parts, one behind the other
abbrev pub all : {A : Type 0} → List (Formed A) → Formed (List A)
all [] = Ok []
all (x ∷ xs) = after x (λ a. made (λ rest. a ∷ rest) (all xs))

-- a part that may be absent
abbrev pub maybe : {A : Type 0} → Option (Formed A) → Formed (Option A)
maybe None = Ok None
maybe (Some x) = made (λ a. Some a) x
