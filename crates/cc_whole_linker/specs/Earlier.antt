-- Items of one name, found from behind: for each item where the last one before it with its name stands.
use Rattle.std.specs.Prelude.{◌≡◌, ℕ, ◌<◌, ◌≤◌, true, false, List, ◌∷◌, ◌++◌, Option, Some, None, length, get_or, take, map, reverse, bytes_eq}
use Rattle.std.specs.List.{list_any}
use Rattle.cc_whole_link.specs.Placed.{Placed, its_name}
use Rattle.cf_name_places.specs.Places.{last_place}

-- the last one first
abbrev pub names_of : List Placed → List (List ℕ)
names_of items = reverse (map its_name items)

abbrev pub last_named : List ℕ → List Placed → Option ℕ
last_named name items = last_place name (names_of items)

-- each of these items has its place in the list, where the last one before it with its name stands
pub record Chained (items : List Placed) (earlier : List (Option ℕ)) : Type 0 where
  pub long : length items ≤ length earlier
  pub places : (i : ℕ) (item : Placed) (place : Option ℕ) → i < length items → item ≡ get_or items i item → place ≡ get_or earlier i place
      → place ≡ last_named (its_name item) (take i items)

-- where the last item of a name stands is known, and for each of these items where the last one before it with its own name does
pub record IsPlaced (name : List ℕ) (items : List Placed) (places : List (Option ℕ)) (last : Option ℕ) : Type 0 where
  pub known : Chained items places
  pub here : last ≡ last_named name items

-- a name, and the items among which those that have it are sought
pub record Sought : Type 0 where
  pub name : List ℕ
  pub items : List Placed

-- the last item of the name is passed, and those before it are left
pub record Passes (old : Sought) (other : Placed) (new : Sought) : Type 0 where
  pub same_name : new.name ≡ old.name
  pub named : bytes_eq (its_name other) old.name ≡ true
  pub between : List Placed
  pub split : old.items ≡ new.items ++ other ∷ between
  pub others : list_any (λ (b : Placed). bytes_eq (its_name b) old.name) between ≡ false

-- what is found next, if one is left
abbrev pub Next : Sought → Option Placed → Sought → Type 0
Next old None new = list_any (λ (b : Placed). bytes_eq (its_name b) old.name) old.items ≡ false
Next old (Some other) new = Passes old other new
