use Rattle.cf_lower_kept.specs.Opened.{is_open_one}
use Rattle.cf_lowerable_open.proofs.Telling.{any_found, any_none, any_past}
use Rattle.cf_lowerable_open.proofs.lists.is_open.Goals as goal

pub returns-then-is_open : goal.returns-then-is_open
returns-then-is_open c =
    any_found (λ x. is_open_one c.args.local x) c.args.all.now c.loop-x.x-index _ c.loop-x.invariant c.x-item.result c.loop-x-test.true c.x-item.is c.is_open.result c.is_open.ensures c.if-is_open.true

pub loop-x-preserved : goal.loop-x-preserved
loop-x-preserved c =
    any_past (λ x. is_open_one c.args.local x) c.args.all.now c.loop-x.x-index _ c.loop-x.invariant c.x-item.result c.loop-x-test.true c.x-item.is c.is_open.result c.is_open.ensures c.if-is_open.false

pub returns : goal.returns
returns c = any_none (λ x. is_open_one c.args.local x) c.args.all.now c.loop-x.x-index _ c.loop-x.invariant c.loop-x-test.false
