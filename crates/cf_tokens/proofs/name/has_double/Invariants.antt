use Rattle.std.proofs.Common.{◌≡◌, length}
use Rattle.cf_tokens.specs.Name.{has_double}
use Rattle.cf_tokens.proofs.name.has_double.Given as goal

abbrev pub invariant-loop-rest : goal.invariant-loop-rest
invariant-loop-rest l = has_double l.rest ≡ has_double l.name

abbrev pub decreases-loop-rest : goal.decreases-loop-rest
decreases-loop-rest l = length l.rest
