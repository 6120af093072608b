use Rattle.std.proofs.Common.{◌+◌, length}
use Rattle.cc_whole_front.proofs.Turns.{Halfway}
use Rattle.cc_whole_front.proofs.front.front_of.Given as goal

abbrev pub invariant-loop-rest : goal.invariant-loop-rest
invariant-loop-rest l = Halfway (l.fn.before + length l.fn.bytes) l.fn.bytes l.rest l.tokens.items l.places.items

abbrev pub decreases-loop-rest : goal.decreases-loop-rest
decreases-loop-rest l = length l.rest
