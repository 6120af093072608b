use Rattle.std.proofs.Common.{◌∙◌, Result, ap, subst, Ok, Err}
use Rattle.cf_core_objects.specs.declared.answer.Stop.{Stop}
use Rattle.cf_core_run.specs.declared.state.Step.{Step}
use Rattle.cf_core_run.specs.Nearer.{Nearer, steps_left}
use Rattle.cf_core_drive.specs.Run.{streams}
use Rattle.cf_core_drive.proofs.StepLaws.{turns-on, turns-act, turns-none, turns-ends, turns-enters, turns-puts}
use Rattle.cf_core_drive.proofs.GoingLaws.{going-broken, answers-nearer}
use Rattle.cf_core_drive.specs.Run.{ahead_of}
use Rattle.cf_core_drive.proofs.turn.advance.Goals as goal

pub returns-in-Err-Act-clause-turns : goal.returns-in-Err-Act-clause-turns
returns-in-Err-Act-clause-turns g c = turns-act c.args.program.now c.args.machine.now c.step.new.self (streams (g.I.Source.stream c.args.input.now) (g.O.Sink.stream c.args.out.now)) c.args.tally.now c.step.result c.step.ensures.comes
    c.in-Err-Act.act (c.in-Err-Act.is ∙ ap Err c.in-Err-Act.field-0-is)

pub returns-in-Err-Malformed-clause-turns : goal.returns-in-Err-Malformed-clause-turns
returns-in-Err-Malformed-clause-turns g c = turns-none c.args.program.now c.args.machine.now c.step.new.self (streams (g.I.Source.stream c.args.input.now) (g.O.Sink.stream c.args.out.now)) c.args.tally.now c.step.result c.step.ensures.comes
    (c.in-Err-Malformed.is ∙ ap Err c.in-Err-Malformed.field-0-is)

pub returns-in-Err-Memory-clause-turns : goal.returns-in-Err-Memory-clause-turns
returns-in-Err-Memory-clause-turns g c = λ T around means old h.
    going-broken (ahead_of T c.args.program.now around) means c.args.machine.now old (streams (g.I.Source.stream c.args.input.now) (g.O.Sink.stream c.args.out.now)) c.args.tally.now h

pub returns-in-Ok-On-clause-turns : goal.returns-in-Ok-On-clause-turns
returns-in-Ok-On-clause-turns g c = turns-on c.args.program.now c.args.machine.now c.step.new.self (streams (g.I.Source.stream c.args.input.now) (g.O.Sink.stream c.args.out.now)) c.args.tally.now c.step.result c.step.ensures.comes
    (c.in-Ok-On.is ∙ ap Ok c.in-Ok-On.field-0-is)

pub returns-in-Ok-Ends-clause-turns : goal.returns-in-Ok-Ends-clause-turns
returns-in-Ok-Ends-clause-turns g c = turns-ends c.args.program.now c.args.machine.now c.step.new.self (streams (g.I.Source.stream c.args.input.now) (g.O.Sink.stream c.args.out.now)) c.args.tally.now c.step.result c.step.ensures.comes
    c.in-Ok-Ends.end c.end_of.result (c.in-Ok-Ends.is ∙ ap Ok c.in-Ok-Ends.field-0-is) c.end_of.ensures

pub returns-in-Ok-Enters-clause-turns : goal.returns-in-Ok-Enters-clause-turns
returns-in-Ok-Enters-clause-turns g c = turns-enters c.args.program.now c.args.machine.now c.step.new.self (streams (g.I.Source.stream c.args.input.now) (g.O.Sink.stream c.args.out.now)) c.args.tally.now c.step.result c.step.ensures.comes
    _ c.count.new.tally (c.in-Ok-Enters.is ∙ ap Ok c.in-Ok-Enters.field-0-is) c.count.ensures

pub returns-in-Ok-Puts-clause-turns : goal.returns-in-Ok-Puts-clause-turns
returns-in-Ok-Puts-clause-turns g c = turns-puts c.args.program.now c.args.machine.now c.step.new.self (streams (g.I.Source.stream c.args.input.now) (g.O.Sink.stream c.args.out.now)) c.args.tally.now c.step.result c.step.ensures.comes
    c.in-Ok-Puts.byte (g.O.Sink.stream c.put.new.out) c.put.result (c.in-Ok-Puts.is ∙ ap Ok c.in-Ok-Puts.field-0-is) c.put.ensures

pub returns-in-Ok-On-clause-nearer : goal.returns-in-Ok-On-clause-nearer
returns-in-Ok-On-clause-nearer g c = λ h. subst (λ (r : Result Step Stop). Nearer c.args.program.now c.args.machine.now.ticks (steps_left c.args.program.now c.args.machine.now) r c.step.new.self) (c.in-Ok-On.is ∙ ap Ok c.in-Ok-On.field-0-is) (c.step.ensures.nearer h)

pub returns-in-Ok-Enters-clause-nearer : goal.returns-in-Ok-Enters-clause-nearer
returns-in-Ok-Enters-clause-nearer g c = λ h. subst (λ (r : Result Step Stop). Nearer c.args.program.now c.args.machine.now.ticks (steps_left c.args.program.now c.args.machine.now) r c.step.new.self) (c.in-Ok-Enters.is ∙ ap Ok c.in-Ok-Enters.field-0-is) (c.step.ensures.nearer h)

pub returns-in-Ok-Puts-clause-nearer : goal.returns-in-Ok-Puts-clause-nearer
returns-in-Ok-Puts-clause-nearer g c = λ h. answers-nearer c.args.program.now c.args.machine.now c.step.new.self c.put.result (subst (λ (r : Result Step Stop). Nearer c.args.program.now c.args.machine.now.ticks (steps_left c.args.program.now c.args.machine.now) r c.step.new.self) (c.in-Ok-Puts.is ∙ ap Ok c.in-Ok-Puts.field-0-is) (c.step.ensures.nearer h))
