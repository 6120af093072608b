use Rattle.std.proofs.Common.{length}
use Rattle.cc_whole_same.proofs.expressions.+same_expressions.Given as goal

abbrev pub decreases-same_expressions : goal.decreases-same_expressions
decreases-same_expressions l = length l.a.now
