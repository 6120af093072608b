use Rattle.std.proofs.Common.{length}
use Rattle.cc_whole_wide.proofs.Bits.{Reading}
use Rattle.cc_whole_wide.proofs.label.low_bits.Given as goal

abbrev pub invariant-loop-rest : goal.invariant-loop-rest
invariant-loop-rest l = Reading l.rest l.digits l.value

abbrev pub decreases-loop-rest : goal.decreases-loop-rest
decreases-loop-rest l = length l.rest
