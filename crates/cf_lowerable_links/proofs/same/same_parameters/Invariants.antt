use Rattle.std.proofs.Common.{◌≡◌, length}
use Rattle.cc_whole.specs.Types.{same_types, parameter_types}
use Rattle.cf_lowerable_links.proofs.same.same_parameters.Given as goal

abbrev pub invariant-loop-parameter : goal.invariant-loop-parameter
invariant-loop-parameter l = same_types (parameter_types l.ours) (parameter_types l.theirs) ≡ same_types (parameter_types l.fn.a) (parameter_types l.fn.b)

abbrev pub decreases-loop-parameter : goal.decreases-loop-parameter
decreases-loop-parameter l = length l.ours
