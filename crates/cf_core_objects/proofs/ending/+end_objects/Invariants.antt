use Rattle.std.specs.Prelude.{length}
use Rattle.cf_core_objects.proofs.ending.+end_objects.Given as goal

abbrev pub decreases-end_objects : goal.decreases-end_objects
decreases-end_objects l = length l.list.now
