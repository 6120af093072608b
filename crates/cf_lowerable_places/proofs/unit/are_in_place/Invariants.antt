use Rattle.std.proofs.Common.{◌≡◌, map}
use Rattle.std.specs.List.{list_all}
use Rattle.cf_lower_place.specs.Named.{function_in_place}
use Rattle.cf_lower_types.specs.Bare.{classes_of}
use Rattle.cf_plain.specs.View.{function_of}
use Rattle.cf_lowerable_places.proofs.UnitLaws.{From}
use Rattle.cf_lowerable_places.proofs.unit.are_in_place.Given as goal

abbrev pub invariant-loop-f : goal.invariant-loop-f
invariant-loop-f l = From l.tables l.all l.f-index ≡ list_all (function_in_place (classes_of l.tables)) (map (function_of l.tables) l.all)
