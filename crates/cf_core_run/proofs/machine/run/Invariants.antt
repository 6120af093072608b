use Rattle.cf_core_run.specs.Whole.{Goes}
use Rattle.cf_core_run.proofs.machine.run.Given as goal

abbrev pub invariant-ticks : goal.invariant-ticks
invariant-ticks l = Goes l.program l.initial.machine l.initial.seen l.machine l.seen

abbrev pub decreases-ticks : goal.decreases-ticks
decreases-ticks l = l.machine.ticks
