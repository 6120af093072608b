-- The type of a local.
use Rattle.std.proofs.Common.{◌≡◌, ℕ, List, map, Option, slice_get, sym, ap, ◌∙◌}
use Rattle.std.proofs.lemmas.Option.{slice_get-map}
use Rattle.std.specs.Option.{option_map}
use Rattle.cf_core.specs.FromTypes.{Tables, type_of}
use Rattle.cf_lower.specs.Kept.{type_or_void}

pub type_there : (tables : Tables) (types : List ℕ) (i : ℕ) (o : Option ℕ) → o ≡ slice_get types i
    → type_or_void (option_map (type_of tables) o) ≡ type_or_void (slice_get (map (type_of tables) types) i)
type_there tables types i o is = ap (λ p. type_or_void (option_map (type_of tables) p)) is ∙ ap type_or_void (sym (slice_get-map (type_of tables) types i))
