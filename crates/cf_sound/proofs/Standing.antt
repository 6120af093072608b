-- A file has a `main` where a function of its unit is one.
use Rattle.std.proofs.Common.{◌≡◌, ◌∙◌, ◌||◌, List, [], ◌∷◌, map, refl, ap, sym}
use Rattle.std.specs.List.{list_any}
use Rattle.cf_core.specs.FromTypes.{Tables}
use Rattle.cf_core.specs.FromUnit.{Unit, file_of, function_of, tables_of}
use Rattle.cf_core.specs.declared.unit.CoreFn.{CoreFn}
use Rattle.cf_file_sound.proofs.Lists.{found-any}
use Rattle.cf_file_sound.specs.Files.{has_main, stands_for_main}
use Rattle.cf_sound.specs.Mains.{stands}

any-stands : (tables : Tables) (fs : List CoreFn) → list_any stands fs ≡ list_any stands_for_main (map (function_of tables) fs)
any-stands tables [] = refl
any-stands tables (f ∷ fs) = ap (λ b. stands f || b) (any-stands tables fs)

pub main_stands : (unit : Unit) → list_any stands unit.functions ≡ has_main (file_of unit)
main_stands unit = any-stands (tables_of unit) unit.functions ∙ sym (found-any stands_for_main (map (function_of (tables_of unit)) unit.functions))
