-- Names in a list, and how often they stand there.
use Rattle.std.specs.Prelude.{ℕ, suc, Bool, List, [], ◌∷◌, Option, if◌then◌else◌, map, reverse, unwrap_or, bytes_eq}
use Rattle.std.specs.Borrow.{Bor}
use Rattle.std.specs.HashMap.{HashMap, get}
use Rattle.std.specs.List.{list_any}

abbrev pub is_in : List (List ℕ) → List ℕ → Bool
is_in names x = list_any (λ y. bytes_eq y x) names

-- the names that stand in memory, the last one first
abbrev pub last_first : List (Bor (List ℕ)) → List (List ℕ)
last_first names = reverse (map (λ n. n.now) names)

abbrev pub same_name : Bor (List ℕ) → Bor (List ℕ) → Bool
same_name x y = bytes_eq x.now y.now

-- what a table says of a name
abbrev pub counted : {S : Type 0} → HashMap (Bor (List ℕ)) ℕ S → Bor (List ℕ) → ℕ
counted counts x = unwrap_or (get same_name counts x) 0

-- how often it is so
abbrev pub count_of : List ℕ → List (List ℕ) → ℕ
count_of x [] = 0
count_of x (y ∷ ys) = if bytes_eq y x then suc (count_of x ys) else count_of x ys
