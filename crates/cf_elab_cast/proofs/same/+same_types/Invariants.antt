use Rattle.std.proofs.Common.{◌≡◌, ◌+◌, drop}
use Rattle.cf_elab_cast.specs.Same.{same_params}
use Rattle.cf_elab_cast.proofs.same.+same_types.Given as goal

-- what is left to compare is as good as all
abbrev pub invariant-loop-i : goal.invariant-loop-i
invariant-loop-i l = same_params l.env (drop l.i l.f.params) (drop l.i l.g.params) ≡ same_params l.env l.f.params l.g.params

abbrev pub decreases-same_types : goal.decreases-same_types
decreases-same_types l = l.id + l.other
