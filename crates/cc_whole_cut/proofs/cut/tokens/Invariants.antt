use Rattle.std.proofs.Common.{length}
use Rattle.cc_whole_cut.proofs.Cuts.{Halfway}
use Rattle.cc_whole_cut.proofs.cut.tokens.Given as goal

abbrev pub invariant-loop-rest : goal.invariant-loop-rest
invariant-loop-rest l = Halfway l.fn.text l.rest l.list.items

abbrev pub decreases-loop-rest : goal.decreases-loop-rest
decreases-loop-rest l = length l.rest
