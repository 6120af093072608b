-- The type of a local.
use Rattle.std.proofs.Common.{◌≡◌, ℕ, List, map, Option, slice_get, sym, ap, ◌∙◌}
use Rattle.std.proofs.lemmas.Option.{slice_get-map}
use Rattle.std.specs.Option.{option_map}
use Rattle.cf_core.specs.FromTypes.{Tables, type_of}

pub there : (tables : Tables) (types : List ℕ) (i : ℕ) (o : Option ℕ) → o ≡ slice_get types i → option_map (type_of tables) o ≡ slice_get (map (type_of tables) types) i
there tables types i o is = ap (option_map (type_of tables)) is ∙ sym (slice_get-map (type_of tables) types i)
