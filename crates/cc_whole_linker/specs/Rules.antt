-- What the code asks of the items that it goes over.
use Rattle.std.specs.Prelude.{◌≡◌, ℕ, Bool, true, false, not, ◌&&◌, if◌then◌else◌, List, [], ◌∷◌, map, Option, Some, None}
use Rattle.cc_whole.specs.Known.{is_in, is_library}
use Rattle.cc_whole_link.specs.Link.{Refusal, refusal}
use Rattle.cc_whole_link.specs.Placed.{Placed, defines_it, its_name, is_shared, defines_named}
use Rattle.cc_whole_placed.specs.declared.placed.PlacedItem.{PlacedItem}
use Rattle.cc_whole_placed.specs.Seen.{placed_of}

abbrev pub seen : List PlacedItem → List Placed
seen all = map placed_of all

-- the names that items define in the program, in order
abbrev pub defined_names : List Placed → List (List ℕ)
defined_names [] = []
defined_names (p ∷ rest) = if defines_it p then its_name p ∷ defined_names rest else defined_names rest

-- a name that no unit defines, and that is no library function's
abbrev pub is_undefined : List (List ℕ) → List ℕ → Bool
is_undefined defined name = not (is_library name) && not (is_in defined name)

-- an item before it is a shared definition of its name, and another as it stands in its unit
pub record DiffersFrom (i other : Placed) : Type 0 where
  pub same_name : defines_named (its_name i) other ≡ true
  pub both_shared : (is_shared i && is_shared other) ≡ true
  pub differ : i.was ≡ other.was → ⊥

-- what an item breaks, by what was found of each rule
abbrev pub first_of : List ℕ → Option (List ℕ) → Option (List ℕ) → Bool → Bool → Option Refusal
first_of name (Some undefined) twice differs other_type = Some (refusal 1 undefined)
first_of name None (Some twice) differs other_type = Some (refusal 2 twice)
first_of name None None true other_type = Some (refusal 3 name)
first_of name None None false true = Some (refusal 5 name)
first_of name None None false false = None
