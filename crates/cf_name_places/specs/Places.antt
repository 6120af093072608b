-- Where the last one of a name stands among names, the last one of which is first.
use Rattle.std.specs.Prelude.{ℕ, Bool, List, [], ◌∷◌, Option, Some, None, if◌then◌else◌, length, unwrap_or, bytes_eq}
use Rattle.std.specs.Borrow.{Bor}
use Rattle.std.specs.HashMap.{HashMap, get}

-- counted from the first name of all, which is at 0
abbrev pub last_place : List ℕ → List (List ℕ) → Option ℕ
last_place x [] = None
last_place x (y ∷ ys) = if bytes_eq y x then Some (length ys) else last_place x ys

abbrev pub same_name : Bor (List ℕ) → Bor (List ℕ) → Bool
same_name x y = bytes_eq x.now y.now

-- what a table says of a name
abbrev pub placed : {S : Type 0} → HashMap (Bor (List ℕ)) (Option ℕ) S → Bor (List ℕ) → Option ℕ
placed table x = unwrap_or (get same_name table x) None

-- for each name where the last equal one behind it in the list stands
abbrev pub befores : List (List ℕ) → List (Option ℕ)
befores [] = []
befores (y ∷ ys) = last_place y ys ∷ befores ys
