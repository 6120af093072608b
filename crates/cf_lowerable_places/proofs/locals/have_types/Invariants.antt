use Rattle.std.proofs.Common.{◌≡◌, map}
use Rattle.cf_core.specs.FromTypes.{type_of}
use Rattle.cf_lower_held.specs.Scenes.{locals_in}
use Rattle.cf_lower_place.specs.Calls.{types_passed}
use Rattle.cf_lowerable_places.proofs.Passing.{From}
use Rattle.cf_lowerable_places.proofs.locals.have_types.Given as goal

abbrev pub invariant-loop-i : goal.invariant-loop-i
invariant-loop-i l = From (locals_in l.x) (type_of l.x.tables.now) l.i l.all l.types ≡ types_passed (locals_in l.x) l.all (map (type_of l.x.tables.now) l.types)
