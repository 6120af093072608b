-- The places of the meaning that those of the runner are.
use Rattle.std.specs.Prelude.{◌≡◌, ℕ, Bool, true, false, not, ◌&&◌, nat_lt, nat_le, if◌then◌else◌, [], ◌∷◌, Option, Some, None}
use Rattle.cf_core.specs.Core.{item, past}
use Rattle.cf_core.specs.Places.{Route, route_eq}
use Rattle.cf_core.specs.Places as places
use Rattle.cf_core.specs.Pointers.{element_of}
use Rattle.cf_core_place.specs.declared.goal.Goal.{Goal}
use Rattle.cf_core_place.specs.declared.goal.Inside.{Inside}
use Rattle.cf_core_place.specs.declared.goal.Inside.TheVariants as inside
use Rattle.cf_core_place.specs.declared.goal.Row.{Row}
use Rattle.cf_core_place.specs.declared.part.Part.{Part}
use Rattle.cf_core_place.specs.declared.part.Part.TheVariants as part
use Rattle.cf_core_place.specs.declared.part.Place.{Place}

abbrev pub route_of : Part → Route
route_of part.Whole = []
route_of part.Past = past ∷ []
route_of (part.Item i) = item i ∷ []
route_of (part.Inner i j) = item j ∷ item i ∷ []

abbrev pub place_of : Place → places.Place
place_of p = record { object = p.object; route = route_of p.part }

abbrev pub both_lone : Bool → Bool → Bool
both_lone true b = b
both_lone false b = not b

-- whether two routes lead to elements of one array
abbrev pub same_element : Route → Route → Bool
same_element π ρ = route_eq (element_of π).array (element_of ρ).array && both_lone (element_of π).is_lone (element_of ρ).is_lone

-- no end, and not two arrays deep
abbrev pub has_items : Part → Bool
has_items part.Whole = true
has_items part.Past = false
has_items (part.Item i) = true
has_items (part.Inner i j) = false

-- the element of this index of a part that has one
abbrev pub IsElement : Part → ℕ → Option Part → Type 0
IsElement p i (Some q) = route_of q ≡ item i ∷ route_of p
IsElement p i None = has_items p ≡ false

-- how many arrays a part lies in; the end of an object stands behind it
abbrev pub depth : Part → ℕ
depth part.Whole = 0
depth part.Past = 0
depth (part.Item i) = 1
depth (part.Inner i j) = 2

-- what is no array counts as an array of one (5.7)
abbrev pub or_one : Option ℕ → ℕ
or_one None = 1
or_one (Some n) = n

abbrev pub is_item : Option ℕ → ℕ → Bool
is_item count i = nat_lt i (or_one count)

-- an index that is at most this
abbrev pub kept_to : ℕ → Option ℕ → Option ℕ
kept_to n None = None
kept_to n (Some i) = if nat_le i n then Some i else None

-- Parts that are no ends.

abbrev pub part_of : Inside → Part
part_of inside.Whole = part.Whole
part_of (inside.Item i) = part.Item i
part_of (inside.Inner i j) = part.Inner i j

abbrev pub placed : Goal → Place
placed g = record { object = g.object; part = part_of g.part }

abbrev pub goal_place : Goal → places.Place
goal_place g = place_of (placed g)

abbrev pub row_route : Option ℕ → Route
row_route None = []
row_route (Some i) = item i ∷ []

abbrev pub row_place : Row → places.Place
row_place r = record { object = r.object; route = row_route r.item }

-- the same as an array, or an element of an element
abbrev pub IsRow : Goal → Option Row → Type 0
IsRow g (Some r) = row_place r ≡ goal_place g
IsRow g None = depth (part_of g.part) ≡ 2
