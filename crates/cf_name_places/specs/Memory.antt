-- Names with their places, as they stand in memory.
use Rattle.std.specs.Prelude.{◌≡◌, ℕ, List, Option, map, reverse}
use Rattle.std.specs.Borrow.{Bor}
use Rattle.std.specs.HashMap.{HashMap}
use Rattle.cf_name_places.specs.declared.places.Place.{Place}
use Rattle.cf_name_places.specs.Places.{last_place, placed, befores}

-- the last name first
abbrev pub names_of : List Place → List (List ℕ)
names_of places = reverse (map (λ p. p.name.now) places)

abbrev pub befores_of : List Place → List (Option ℕ)
befores_of places = reverse (map (λ p. p.before) places)

-- the table knows the last place of each name, and each place the one before it
pub record Known {S : Type 0} (places : List Place) (table : HashMap (Bor (List ℕ)) (Option ℕ) S) : Type 0 where
  pub last : (q : Bor (List ℕ)) → placed table q ≡ last_place q.now (names_of places)
  pub before : befores_of places ≡ befores (names_of places)
