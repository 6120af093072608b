use Rattle.std.proofs.Common.{length}
use Rattle.cf_lowerable_open.proofs.labels.+declared_at.Given as goal

abbrev pub decreases-declared_at : goal.decreases-declared_at
decreases-declared_at l = length l.before.now
