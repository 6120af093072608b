use Rattle.std.proofs.Common.{length}
use Rattle.cf_elab_fit.proofs.step.+all_steps.Given as goal

abbrev pub decreases-all_steps : goal.decreases-all_steps
decreases-all_steps l = length l.steps.now
