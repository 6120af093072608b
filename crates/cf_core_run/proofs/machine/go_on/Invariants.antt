use Rattle.cf_core_run.specs.Nearer.{steps_left}
use Rattle.cf_core_run.specs.Whole.{Turning}
use Rattle.cf_core_run.proofs.machine.go_on.Given as goal

abbrev pub invariant-steps : goal.invariant-steps
invariant-steps l = Turning l.program l.fn.machine l.fn.seen l.machine l.seen

abbrev pub decreases-steps : goal.decreases-steps
decreases-steps l = steps_left l.program l.machine
