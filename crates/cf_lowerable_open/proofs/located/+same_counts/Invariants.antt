use Rattle.std.proofs.Common.{length}
use Rattle.cf_lowerable_open.proofs.located.+same_counts.Given as goal

abbrev pub decreases-same_counts : goal.decreases-same_counts
decreases-same_counts l = length l.left.now
