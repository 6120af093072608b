use Rattle.std.proofs.Common.{◌∙◌, Option, None, Some, Result, Ok, Err, ap, refl, subst, arith}
use Rattle.cf_core_objects.specs.declared.answer.Stop.{Stop}
use Rattle.cf_core_run.specs.declared.state.End.{End}
use Rattle.cf_core_run.specs.Nearer.{Turned}
use Rattle.cf_core_run.proofs.WholeLaws.{turns-after, goes-on}
use Rattle.cf_core_run.proofs.machine.go_on.Goals as goal

pub steps-init : goal.steps-init
steps-init c = record { goes = record { same = λ T a. refl }; ticks = refl }

pub returns-in-Err-clause-turns : goal.returns-in-Err-clause-turns
returns-in-Err-clause-turns c = turns-after c.args.program.now c.args.machine.now c.steps.machine c.turn.new.machine c.args.seen.now c.steps.seen c.turn.new.seen c.turn.result (Err c.in-Err.stop) c.in-Err.is c.steps.invariant.goes c.turn.ensures.turns

pub returns-in-Ok-Some-clause-turns : goal.returns-in-Ok-Some-clause-turns
returns-in-Ok-Some-clause-turns c = turns-after c.args.program.now c.args.machine.now c.steps.machine c.turn.new.machine c.args.seen.now c.steps.seen c.turn.new.seen c.turn.result (Ok (Some c.in-Ok-Some.end)) (c.in-Ok-Some.is ∙ ap Ok c.in-Ok-Some.field-0-is) c.steps.invariant.goes c.turn.ensures.turns

pub returns-then-machine-ticks-clause-turns : goal.returns-then-machine-ticks-clause-turns
returns-then-machine-ticks-clause-turns c = turns-after c.args.program.now c.args.machine.now c.steps.machine c.turn.new.machine c.args.seen.now c.steps.seen c.turn.new.seen c.turn.result (Ok None) (c.in-Ok-None.is ∙ ap Ok c.in-Ok-None.field-0-is) c.steps.invariant.goes c.turn.ensures.turns

pub steps-preserved : goal.steps-preserved
steps-preserved c =
    let near = subst (λ (r : Result (Option End) Stop). Turned c.args.program.now c.steps.machine c.turn.new.machine r) (c.in-Ok-None.is ∙ ap Ok c.in-Ok-None.field-0-is) c.turn.ensures.nearer in
    record {
      goes = goes-on c.args.program.now c.args.machine.now c.steps.machine c.turn.new.machine c.args.seen.now c.steps.seen c.turn.new.seen c.turn.result (c.in-Ok-None.is ∙ ap Ok c.in-Ok-None.field-0-is) c.steps.invariant.goes c.turn.ensures.turns;
      ticks = omega (arith, near.ticks, c.steps.invariant.ticks);
    }

pub steps-smaller : goal.steps-smaller
steps-smaller c =
    let near = subst (λ (r : Result (Option End) Stop). Turned c.args.program.now c.steps.machine c.turn.new.machine r) (c.in-Ok-None.is ∙ ap Ok c.in-Ok-None.field-0-is) c.turn.ensures.nearer in
    near.steps (omega (arith, near.ticks, c.steps.invariant.ticks))
