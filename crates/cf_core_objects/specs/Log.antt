-- What the parts of an object hold, by the log of what was done to them.
use Rattle.std.specs.Prelude.{ℕ, suc, ◌≡◌, Bool, true, false, if◌then◌else◌, List, [], ◌∷◌, ◌++◌, drop, Option, Some, None, slice_get}
use Rattle.cf_core.specs.Types.{SourceType}
use Rattle.cf_core.specs.Places.{Route, route_eq, beyond, is_beyond, type_at}
use Rattle.cf_core.specs.Store.{Value, Nothing, Missing, Built, Number, Null, At, Code, from_part, zero_of}
use Rattle.cf_core_place.specs.declared.part.Part.{Part}
use Rattle.cf_core_place.specs.Routes.{route_of, place_of}
use Rattle.cf_core_objects.specs.declared.answer.Value.{Value as Given}
use Rattle.cf_core_objects.specs.declared.answer.Value.TheVariants as given
use Rattle.cf_core_objects.specs.declared.object.Held.{Held}
use Rattle.cf_core_objects.specs.declared.object.Held.TheVariants as held

abbrev pub value_of : Given → Value
value_of given.Nothing = Nothing
value_of given.Missing = Missing
value_of given.Built = Built
value_of (given.Number z) = Number z
value_of given.Null = Null
value_of (given.At p) = At (place_of p)
value_of (given.Code name) = Code name.now

-- in an object of this type, what stands at each route once this was done, over what stood there
abbrev pub noted : SourceType → Held → (Route → Option Value) → Route → Option Value
noted t (held.Value at v) old π = if route_eq π (route_of at) then Some (value_of v) else old π
noted t (held.Zeros at) old π = from_part (λ r. Some (zero_of (type_at [] t (r ++ route_of at)))) (beyond π (route_of at)) (old π)

-- and once all of this was done, the oldest first
abbrev pub logged : SourceType → (Route → Option Value) → List Held → Route → Option Value
logged t old [] = old
logged t old (entry ∷ rest) = logged t (noted t entry old) rest

-- whether it says what this part holds
abbrev pub touches : Held → Part → Bool
touches (held.Value at v) p = route_eq (route_of p) (route_of at)
touches (held.Zeros at) p = is_beyond (route_of p) (route_of at)

-- none of the list says what this part holds
abbrev pub Untouched : Part → List Held → Type 0
Untouched p [] = Unit {0}
Untouched p (entry ∷ rest) = (touches entry p ≡ false) × Untouched p rest

-- The entry of this number is the newest one that says what this part holds.
pub record IsNewest (log : List Held) (part : Part) (i : ℕ) : Type 0 where
  pub entry : Held
  pub is : slice_get log i ≡ Some entry
  pub touches : touches entry part ≡ true
  pub newer : Untouched part (drop (suc i) log)

-- the newest of a log, if there is one
abbrev pub Newest : List Held → Part → Option ℕ → Type 0
Newest log p None = Untouched p log
Newest log p (Some i) = IsNewest log p i

-- It is that, and a value.
pub record IsValue (log : List Held) (part : Part) (i : ℕ) : Type 0 where
  pub at : Part
  pub value : Given
  pub is : slice_get log i ≡ Some (held.Value at value)
  pub same : route_eq (route_of part) (route_of at) ≡ true
  pub newer : Untouched part (drop (suc i) log)
