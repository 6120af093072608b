use Rattle.std.proofs.Common.{length}
use Rattle.cf_sequence_stmt.proofs.passing.+declare_all.Given as goal

abbrev pub decreases-declare_all : goal.decreases-declare_all
decreases-declare_all l = length l.locals.now
