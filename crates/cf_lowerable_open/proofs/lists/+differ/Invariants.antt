use Rattle.std.proofs.Common.{length}
use Rattle.cf_lowerable_open.proofs.lists.+differ.Given as goal

abbrev pub decreases-differ : goal.decreases-differ
decreases-differ l = length l.locals.now
