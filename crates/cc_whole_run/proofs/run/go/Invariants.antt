use Rattle.std.proofs.Common.{◌≡◌, ℕ, ◌<◌, List, []}
use Rattle.cf_base.specs.World.{Outcome}
use Rattle.cc_whole_step.specs.Running.{total}
use Rattle.cf_streams.specs.Streams.{streams}
use Rattle.cc_whole_run.specs.Going.{Going, outside}
use Rattle.cc_whole_run.proofs.run.go.Given as goal

abbrev pub invariant-loop : goal.invariant-loop
invariant-loop g l = (means : List ℕ → Outcome) (n : ℕ) → ((input : List ℕ) → means input ≡ total n l.initial.moment (outside input [])) → l.initial.moment.ticks < n
    → Going means n l.moment (streams (g.I.Source.stream l.initial.input) (g.O.Sink.stream l.initial.out)) (streams (g.I.Source.stream l.input) (g.O.Sink.stream l.out)) l.tally
