-- Whether every number in nodes is there in a file's tables.
use Rattle.std.specs.Prelude.{ℕ, Bool, List, map, Option, option_map}
use Rattle.cf_core.specs.declared.node.Core.{Core}
use Rattle.cf_core.specs.FromUnit.{Unit, tables_of}
use Rattle.cf_core.specs.Numbers.{has_type, are_known, all_of, maybe_of}

abbrev pub type_known : Unit → ℕ → Bool
type_known unit t = has_type (tables_of unit) t

abbrev pub known : Unit → Core → Bool
known unit e = are_known (tables_of unit) e

abbrev pub all_known : Unit → List Core → Bool
all_known unit es = all_of (tables_of unit) (map (are_known (tables_of unit)) es)

abbrev pub maybe_known : Unit → Option Core → Bool
maybe_known unit e = maybe_of (tables_of unit) (option_map (are_known (tables_of unit)) e)
