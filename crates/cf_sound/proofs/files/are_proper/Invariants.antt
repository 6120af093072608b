use Rattle.std.proofs.Common.{◌≡◌, drop, map}
use Rattle.std.specs.List.{list_all}
use Rattle.cf_core.specs.FromTypes.{type_of}
use Rattle.cf_core.specs.FromUnit.{tables_of}
use Rattle.cf_core_sound.specs.Proper.{is_proper}
use Rattle.cf_sound.proofs.files.are_proper.Given as goal

abbrev pub invariant-loop-id : goal.invariant-loop-id
invariant-loop-id l = list_all is_proper (map (type_of (tables_of l.unit)) (drop l.id-index l.ids)) ≡ list_all is_proper (map (type_of (tables_of l.unit)) l.ids)
