use Rattle.std.proofs.Common.{length}
use Rattle.cf_lowerable_open.proofs.labels.+declared.Given as goal

abbrev pub decreases-declared : goal.decreases-declared
decreases-declared l = length l.all.now
