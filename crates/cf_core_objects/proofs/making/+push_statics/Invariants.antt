use Rattle.std.specs.Prelude.{length}
use Rattle.cf_core_objects.proofs.making.+push_statics.Given as goal

abbrev pub decreases-push_statics : goal.decreases-push_statics
decreases-push_statics l = length l.statics.now
