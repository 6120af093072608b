use Rattle.std.proofs.Common.{length}
use Rattle.cf_lowerable_open.proofs.located.+counts_at.Given as goal

abbrev pub decreases-counts_at : goal.decreases-counts_at
decreases-counts_at l = length l.places.now
