use Rattle.std.proofs.Common.{◌≡◌, ℕ, List, []}
use Rattle.cf_core.specs.FromTypes.{Tables}
use Rattle.cf_core_run.specs.Whole.{Around}
use Rattle.cf_core_drive.specs.Run.{Meaning, ahead_of, streams}
use Rattle.cf_core_drive.specs.Going.{Going}
use Rattle.cf_core_drive.proofs.machine.go.Given as goal

abbrev pub invariant-ticks : goal.invariant-ticks
invariant-ticks g l = (T : Tables) (around : Around) (means : Meaning) → ((input : List ℕ) → means input ≡ ahead_of T l.program around l.initial.machine input [])
    → Going (ahead_of T l.program around) means l.machine (streams (g.I.Source.stream l.initial.input) (g.O.Sink.stream l.initial.out)) (streams (g.I.Source.stream l.input) (g.O.Sink.stream l.out)) l.tally

abbrev pub decreases-ticks : goal.decreases-ticks
decreases-ticks g l = l.machine.ticks
