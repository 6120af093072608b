use Rattle.std.proofs.Common.{◌≡◌, ◌+◌, drop}
use Rattle.cf_lower_same.specs.Alike.{same_params}
use Rattle.cf_lower_same.proofs.same.+same_bare.Given as goal

-- what is left to compare is as good as all
abbrev pub invariant-loop-i : goal.invariant-loop-i
invariant-loop-i l = same_params l.tables (drop l.i l.first.params) (drop l.i l.second.params) ≡ same_params l.tables l.first.params l.second.params

abbrev pub decreases-same_bare : goal.decreases-same_bare
decreases-same_bare l = l.id + l.other
