-- What loading gives by what its parts give.
use Rattle.std.proofs.Common.{◌≡◌, ℕ, List, [], ◌∷◌, length, None, Some, refl, Err, slice_get, option_map}
use Rattle.cf_classes.specs.declared.class.ClassDef.{ClassDef}
use Rattle.cf_core.specs.FromUnit.{Unit}
use Rattle.cf_core_node.specs.declared.fault.NotLoaded.{NotLoaded}
use Rattle.cf_core_node.specs.declared.fault.NotLoaded.TheVariants as part
use Rattle.cf_core_node.specs.Gives.{Gives}
use Rattle.cf_core_load.specs.Faults.{without_class}
use Rattle.cf_core_load.specs.Files.{program_of}
use Rattle.cf_core_load.specs.Loads.{Loads, first_class}

pub loads_fault : (unit : Unit) (e : NotLoaded) → first_class unit.classes.defined ≡ None → Gives (program_of unit) (Err e) → Loads unit (Err (without_class e))
loads_fault unit (part.NotBuilt at) none g = (none, g)
loads_fault unit part.Memory none g = tt

pub first_none : (ds : List (ℕ × ClassDef)) → length ds ≡ 0 → first_class ds ≡ None
first_none [] e = refl
first_none (d ∷ ds) e = cc

pub first_some : (ds : List (ℕ × ClassDef)) (c : ℕ) → option_map (λ d. d.0) (slice_get ds 0) ≡ Some c → first_class ds ≡ Some c
first_some [] c e = cc
first_some (d ∷ ds) c e = e
