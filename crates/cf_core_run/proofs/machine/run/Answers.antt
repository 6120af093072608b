use Rattle.std.proofs.Common.{ap, ◌∙◌, refl, subst, Option, Result, Ok}
use Rattle.cf_core_objects.specs.declared.answer.Stop.{Stop}
use Rattle.cf_core_run.specs.declared.state.End.{End}
use Rattle.cf_core_run.specs.Nearer.{Spent}
use Rattle.cf_core_run.proofs.WholeLaws.{runs-err, runs-ends, goes-on}
use Rattle.cf_core_run.proofs.machine.run.Goals as goal

pub returns-in-Err : goal.returns-in-Err
returns-in-Err c = runs-err c.args.program.now c.args.limits c.args.input.now c.start-machine.result _ (c.start-machine.ensures c.args.program.now) refl c.new.ensures.items c.ticks.machine c.go_on.new.machine c.ticks.seen c.go_on.new.seen
    c.in-Err.stop c.go_on.result c.in-Err.is c.ticks.invariant c.go_on.ensures.turns

pub returns-in-Ok-Some : goal.returns-in-Ok-Some
returns-in-Ok-Some c = runs-ends c.args.program.now c.args.limits c.args.input.now c.start-machine.result _ (c.start-machine.ensures c.args.program.now) refl c.new.ensures.items c.ticks.machine c.go_on.new.machine c.ticks.seen c.go_on.new.seen
    c.in-Ok-Some.end (record { end = c.in-Ok-Some.end; trace = c.go_on.new.seen.trace }) c.go_on.result (c.in-Ok-Some.is ∙ ap Ok c.in-Ok-Some.field-0-is) c.ticks.invariant c.go_on.ensures.turns refl refl

pub ticks-preserved : goal.ticks-preserved
ticks-preserved c = goes-on c.args.program.now _ c.ticks.machine c.go_on.new.machine _ c.ticks.seen c.go_on.new.seen c.go_on.result (c.in-Ok-None.is ∙ ap Ok c.in-Ok-None.field-0-is) c.ticks.invariant c.go_on.ensures.turns

pub ticks-smaller : goal.ticks-smaller
ticks-smaller c = subst (λ (r : Result (Option End) Stop). Spent c.ticks.machine c.go_on.new.machine r) (c.in-Ok-None.is ∙ ap Ok c.in-Ok-None.field-0-is) c.go_on.ensures.spends
