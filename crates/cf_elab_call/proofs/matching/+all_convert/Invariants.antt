use Rattle.std.proofs.Common.{length}
use Rattle.cf_elab_call.proofs.matching.+all_convert.Given as goal

abbrev pub decreases-all_convert : goal.decreases-all_convert
decreases-all_convert l = length l.params.now
