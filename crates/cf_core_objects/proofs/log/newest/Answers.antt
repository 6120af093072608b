use Rattle.std.proofs.Common.{◌∙◌, ◌≤◌, length, sym, arith}
use Rattle.cf_core_objects.proofs.LogLaws.{newest-here, newest-below, none-behind}
use Rattle.cf_core_objects.proofs.log.newest.Goals as goal

pub loop-left-init : goal.loop-left-init
loop-left-init c = (omega arith, none-behind c.args.log.now c.args.part)

pub returns-then-touches : goal.returns-then-touches
returns-then-touches c =
    newest-here c.args.log.now c.args.part c.loop-left.left _ c.loop-left-test.true c.loop-left.invariant.0 (sym c.touches.ensures ∙ c.if-touches.true) c.loop-left.invariant.1

pub loop-left-preserved : goal.loop-left-preserved
loop-left-preserved c = (
  let h : c.loop-left.left ≤ length c.args.log.now = c.loop-left.invariant.0 in omega arith,
  newest-below c.args.log.now c.args.part c.loop-left.left _ c.loop-left-test.true c.loop-left.invariant.0 (sym c.touches.ensures ∙ c.if-touches.false) c.loop-left.invariant.1,
)
