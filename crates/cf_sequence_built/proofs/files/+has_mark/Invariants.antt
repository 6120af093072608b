use Rattle.std.proofs.Common.{length}
use Rattle.cf_sequence_built.proofs.files.+has_mark.Given as goal

abbrev pub decreases-has_mark : goal.decreases-has_mark
decreases-has_mark l = length l.name.now
