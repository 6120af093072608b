use Rattle.cf_lower_kept.specs.Opened.{is_local}
use Rattle.cf_lowerable_open.proofs.Telling.{any_found, any_none, any_past}
use Rattle.cf_lowerable_open.proofs.lists.is_listed.Goals as goal

pub returns-then-is : goal.returns-then-is
returns-then-is c =
    any_found (λ x. is_local c.args.local x) c.args.all.now c.loop-x.x-index _ c.loop-x.invariant c.x-item.result c.loop-x-test.true c.x-item.is c.is.result c.is.ensures c.if-is.true

pub loop-x-preserved : goal.loop-x-preserved
loop-x-preserved c =
    any_past (λ x. is_local c.args.local x) c.args.all.now c.loop-x.x-index _ c.loop-x.invariant c.x-item.result c.loop-x-test.true c.x-item.is c.is.result c.is.ensures c.if-is.false

pub returns : goal.returns
returns c = any_none (λ x. is_local c.args.local x) c.args.all.now c.loop-x.x-index _ c.loop-x.invariant c.loop-x-test.false
