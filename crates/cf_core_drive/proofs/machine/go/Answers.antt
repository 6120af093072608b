use Rattle.std.proofs.Common.{◌∙◌, Option, Result, Ok, false, ap, refl, subst}
use Rattle.cf_core_drive.specs.declared.types.End.{End}
use Rattle.cf_core_drive.specs.declared.types.Fault.{Fault}
use Rattle.cf_core_drive.specs.Run.{streams, ahead_of}
use Rattle.cf_core_drive.specs.Going.{TurnsTo, Spends}
use Rattle.cf_core_drive.proofs.GoingLaws.{going-starts}
use Rattle.cf_core_drive.proofs.machine.go.Goals as goal

pub ticks-init : goal.ticks-init
ticks-init g c T around means same =
    going-starts (ahead_of T c.args.program.now around) means c.args.machine (streams (g.I.Source.stream c.args.input.now) (g.O.Sink.stream c.args.out.now)) (record { entered = 0; at_end = false }) refl refl same

pub returns-in-Err : goal.returns-in-Err
returns-in-Err g c T around means same =
    subst (λ (r : Result (Option End) Fault). TurnsTo (ahead_of T c.args.program.now around) means (streams (g.I.Source.stream c.args.input.now) (g.O.Sink.stream c.args.out.now)) c.turns.new.machine (streams (g.I.Source.stream c.turns.new.input) (g.O.Sink.stream c.turns.new.out)) c.turns.new.tally r) c.in-Err.is
    (c.turns.ensures.turns T around means (streams (g.I.Source.stream c.args.input.now) (g.O.Sink.stream c.args.out.now)) (c.ticks.invariant T around means same))

pub returns-in-Ok-Some : goal.returns-in-Ok-Some
returns-in-Ok-Some g c T around means same =
    subst (λ (r : Result (Option End) Fault). TurnsTo (ahead_of T c.args.program.now around) means (streams (g.I.Source.stream c.args.input.now) (g.O.Sink.stream c.args.out.now)) c.turns.new.machine (streams (g.I.Source.stream c.turns.new.input) (g.O.Sink.stream c.turns.new.out)) c.turns.new.tally r) (c.in-Ok-Some.is ∙ ap Ok c.in-Ok-Some.field-0-is)
    (c.turns.ensures.turns T around means (streams (g.I.Source.stream c.args.input.now) (g.O.Sink.stream c.args.out.now)) (c.ticks.invariant T around means same))

pub ticks-preserved : goal.ticks-preserved
ticks-preserved g c T around means same =
    subst (λ (r : Result (Option End) Fault). TurnsTo (ahead_of T c.args.program.now around) means (streams (g.I.Source.stream c.args.input.now) (g.O.Sink.stream c.args.out.now)) c.turns.new.machine (streams (g.I.Source.stream c.turns.new.input) (g.O.Sink.stream c.turns.new.out)) c.turns.new.tally r) (c.in-Ok-None.is ∙ ap Ok c.in-Ok-None.field-0-is)
    (c.turns.ensures.turns T around means (streams (g.I.Source.stream c.args.input.now) (g.O.Sink.stream c.args.out.now)) (c.ticks.invariant T around means same))

pub ticks-smaller : goal.ticks-smaller
ticks-smaller g c = subst (λ (r : Result (Option End) Fault). Spends c.ticks.machine c.turns.new.machine r) (c.in-Ok-None.is ∙ ap Ok c.in-Ok-None.field-0-is) c.turns.ensures.spends
