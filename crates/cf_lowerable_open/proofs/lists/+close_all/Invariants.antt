use Rattle.std.proofs.Common.{length}
use Rattle.cf_lowerable_open.proofs.lists.+close_all.Given as goal

abbrev pub decreases-close_all : goal.decreases-close_all
decreases-close_all l = length l.locals.now
