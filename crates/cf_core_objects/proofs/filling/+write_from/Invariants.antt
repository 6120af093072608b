use Rattle.std.specs.Prelude.{length}
use Rattle.cf_core_objects.proofs.filling.+write_from.Given as goal

abbrev pub decreases-write_from : goal.decreases-write_from
decreases-write_from l = length l.bytes.now
