use Rattle.std.proofs.Common.{◌∙◌, Result, ap, refl, subst, Ok, Err}
use Rattle.cf_core_objects.specs.declared.answer.Stop.{Stop}
use Rattle.cf_core_run.specs.declared.state.Event.TheVariants as seen
use Rattle.cf_core_run.specs.declared.state.Step.{Step}
use Rattle.cf_core_run.specs.Going.{Comes, total}
use Rattle.cf_core_run.specs.Nearer.{Nearer, steps_left}
use Rattle.cf_core_run.proofs.WholeLaws.{turns-on, turns-shows, turns-ends, turns-act, turns-fails}
use Rattle.cf_core_run.proofs.machine.advance.Goals as goal

pub returns-in-Err-Act-clause-turns : goal.returns-in-Err-Act-clause-turns
returns-in-Err-Act-clause-turns c = turns-act c.args.program.now c.args.machine.now c.step.new.self c.args.seen.now c.in-Err-Act.act c.step.result (c.in-Err-Act.is ∙ ap Err c.in-Err-Act.field-0-is) c.step.ensures.comes

pub returns-in-Err-Malformed-clause-turns : goal.returns-in-Err-Malformed-clause-turns
returns-in-Err-Malformed-clause-turns c = turns-fails c.args.program.now c.args.machine.now c.step.new.self c.args.seen.now c.step.result (c.in-Err-Malformed.is ∙ ap Err c.in-Err-Malformed.field-0-is) c.step.ensures.comes

pub returns-in-Ok-On-clause-turns : goal.returns-in-Ok-On-clause-turns
returns-in-Ok-On-clause-turns c = turns-on c.args.program.now c.args.machine.now c.step.new.self c.args.seen.now c.step.result (c.in-Ok-On.is ∙ ap Ok c.in-Ok-On.field-0-is) c.step.ensures.comes

pub returns-in-Ok-Ends-clause-turns : goal.returns-in-Ok-Ends-clause-turns
returns-in-Ok-Ends-clause-turns c = turns-ends c.args.program.now c.args.machine.now c.step.new.self c.args.seen.now c.in-Ok-Ends.end c.whole_end.result c.step.result (c.in-Ok-Ends.is ∙ ap Ok c.in-Ok-Ends.field-0-is) c.step.ensures.comes c.whole_end.ensures

pub returns-in_ok-push-in-Ok-Enters-clause-turns : goal.returns-in_ok-push-in-Ok-Enters-clause-turns
returns-in_ok-push-in-Ok-Enters-clause-turns c = turns-shows c.args.program.now c.args.machine.now c.step.new.self c.args.seen.now (record c.args.seen.now { trace = c.push.new.self }) (seen.Enter c.in-Ok-Enters.name)
    (subst (λ (r : Result Step Stop). Comes c.args.program.now (λ T o. total T c.args.program.now c.args.machine.now o) r c.step.new.self) (c.in-Ok-Enters.is ∙ ap Ok c.in-Ok-Enters.field-0-is) c.step.ensures.comes) refl c.in_ok-push-in-Ok-Enters.ensures.items

pub returns-in_ok-push-in-Ok-Puts-clause-turns : goal.returns-in_ok-push-in-Ok-Puts-clause-turns
returns-in_ok-push-in-Ok-Puts-clause-turns c = turns-shows c.args.program.now c.args.machine.now c.step.new.self c.args.seen.now (record c.args.seen.now { trace = c.push-in-Ok-Puts.new.self }) (seen.Out c.in-Ok-Puts.byte)
    (subst (λ (r : Result Step Stop). Comes c.args.program.now (λ T o. total T c.args.program.now c.args.machine.now o) r c.step.new.self) (c.in-Ok-Puts.is ∙ ap Ok c.in-Ok-Puts.field-0-is) c.step.ensures.comes) refl c.in_ok-push-in-Ok-Puts.ensures.items

pub returns-in-Ok-On-clause-nearer : goal.returns-in-Ok-On-clause-nearer
returns-in-Ok-On-clause-nearer c = λ h.
    subst (λ (r : Result Step Stop). Nearer c.args.program.now c.args.machine.now.ticks (steps_left c.args.program.now c.args.machine.now) r c.step.new.self) (c.in-Ok-On.is ∙ ap Ok c.in-Ok-On.field-0-is) (c.step.ensures.nearer h)

pub returns-in_ok-push-in-Ok-Enters-clause-nearer : goal.returns-in_ok-push-in-Ok-Enters-clause-nearer
returns-in_ok-push-in-Ok-Enters-clause-nearer c = λ h.
    subst (λ (r : Result Step Stop). Nearer c.args.program.now c.args.machine.now.ticks (steps_left c.args.program.now c.args.machine.now) r c.step.new.self) (c.in-Ok-Enters.is ∙ ap Ok c.in-Ok-Enters.field-0-is) (c.step.ensures.nearer h)

pub returns-in_ok-push-in-Ok-Puts-clause-nearer : goal.returns-in_ok-push-in-Ok-Puts-clause-nearer
returns-in_ok-push-in-Ok-Puts-clause-nearer c = λ h.
    subst (λ (r : Result Step Stop). Nearer c.args.program.now c.args.machine.now.ticks (steps_left c.args.program.now c.args.machine.now) r c.step.new.self) (c.in-Ok-Puts.is ∙ ap Ok c.in-Ok-Puts.field-0-is) (c.step.ensures.nearer h)
