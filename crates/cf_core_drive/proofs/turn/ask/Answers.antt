use Rattle.std.proofs.Common.{refl, ap, arith}
use Rattle.cf_core_run.specs.Nearer.{doing_left}
use Rattle.cf_core_drive.specs.Run.{streams}
use Rattle.cf_core_drive.proofs.StepLaws.{turns-takes, turns-not_taken}
use Rattle.cf_core_drive.proofs.turn.ask.Goals as goal

pub returns-in-Err-clause-turns : goal.returns-in-Err-clause-turns
returns-in-Err-clause-turns g c = λ p.
    turns-not_taken p c.args.machine.now (streams (g.I.Source.stream c.args.input.now) (g.O.Sink.stream c.args.out.now)) (g.I.Source.stream c.take.new.input) c.args.tally.now
    (record c.args.tally.now { at_end = c.take.new.at_end }) c.in-Err.ensures refl

pub returns-in-Ok-clause-turns : goal.returns-in-Ok-clause-turns
returns-in-Ok-clause-turns g c = λ p.
    turns-takes p c.args.machine.now _ c.byte_value.result c.requires refl (streams (g.I.Source.stream c.args.input.now) (g.O.Sink.stream c.args.out.now)) (g.I.Source.stream c.take.new.input) c.args.tally.now
    (record c.args.tally.now { at_end = c.take.new.at_end }) c.in-Ok.byte c.byte_value.ensures c.in-Ok.ensures refl

pub returns-in-Ok-clause-nearer : goal.returns-in-Ok-clause-nearer
returns-in-Ok-clause-nearer g c = λ p. record { ticks = omega arith; steps = λ s. omega (arith, ap (doing_left p) c.requires) }
