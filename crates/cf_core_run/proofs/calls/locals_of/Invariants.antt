use Rattle.std.proofs.Common.{◌≡◌, map, take, Some}
use Rattle.cf_core_run.proofs.calls.locals_of.Given as goal

abbrev pub invariant-loop-object : goal.invariant-loop-object
invariant-loop-object l = l.found.items ≡ map Some (take l.object-index l.made)
