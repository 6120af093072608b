use Rattle.std.proofs.Common.{length}
use Rattle.cc_whole_same.proofs.lists.+same_locals.Given as goal

abbrev pub decreases-same_locals : goal.decreases-same_locals
decreases-same_locals l = length l.a.now
