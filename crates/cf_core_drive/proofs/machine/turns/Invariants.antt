use Rattle.cf_core_run.specs.Nearer.{steps_left}
use Rattle.cf_core_drive.specs.Run.{streams}
use Rattle.cf_core_drive.specs.Going.{Turning}
use Rattle.cf_core_drive.proofs.machine.turns.Given as goal

abbrev pub invariant-steps : goal.invariant-steps
invariant-steps g l = Turning l.program l.fn.machine l.machine (streams (g.I.Source.stream l.fn.input) (g.O.Sink.stream l.fn.out)) (streams (g.I.Source.stream l.input) (g.O.Sink.stream l.out)) l.fn.tally l.tally

abbrev pub decreases-steps : goal.decreases-steps
decreases-steps g l = steps_left l.program l.machine
