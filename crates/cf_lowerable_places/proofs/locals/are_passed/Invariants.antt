use Rattle.std.proofs.Common.{◌≡◌, length}
use Rattle.cf_lower_held.specs.Scenes.{locals_in}
use Rattle.cf_lower_place.specs.Calls.{are_passed}
use Rattle.cf_lowerable_places.proofs.locals.are_passed.Given as goal

abbrev pub invariant-loop-local : goal.invariant-loop-local
invariant-loop-local l = are_passed (locals_in l.x) l.rest ≡ are_passed (locals_in l.x) l.all

abbrev pub decreases-loop-local : goal.decreases-loop-local
decreases-loop-local l = length l.rest
