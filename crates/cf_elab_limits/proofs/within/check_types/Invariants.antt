use Rattle.std.proofs.Common.{◌≡◌}
use Rattle.cf_elab_limits.specs.Shut as shut
use Rattle.cf_elab_limits.proofs.within.check_types.Given as goal

abbrev pub invariant-loop-number : goal.invariant-loop-number
invariant-loop-number l = shut.types_within l.initial.count l.env ≡ shut.types_within l.number l.env
