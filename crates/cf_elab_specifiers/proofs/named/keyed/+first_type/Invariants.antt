use Rattle.std.proofs.Common.{length}
use Rattle.cf_elab_specifiers.proofs.named.keyed.+first_type.Given as goal

abbrev pub decreases-first_type : goal.decreases-first_type
decreases-first_type l = length l.numbers.now
