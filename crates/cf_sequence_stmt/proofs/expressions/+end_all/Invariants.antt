use Rattle.std.proofs.Common.{length}
use Rattle.cf_sequence_stmt.proofs.expressions.+end_all.Given as goal

abbrev pub decreases-end_all : goal.decreases-end_all
decreases-end_all l = length l.made.now
