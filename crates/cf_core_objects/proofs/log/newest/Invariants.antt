use Rattle.std.proofs.Common.{◌≤◌, length, drop}
use Rattle.cf_core_objects.specs.Log.{Untouched}
use Rattle.cf_core_objects.proofs.log.newest.Given as goal

-- none of the entries behind says what the part holds
abbrev pub invariant-loop-left : goal.invariant-loop-left
invariant-loop-left l = (l.left ≤ length l.log) × Untouched l.part (drop l.left l.log)

abbrev pub decreases-loop-left : goal.decreases-loop-left
decreases-loop-left l = l.left
