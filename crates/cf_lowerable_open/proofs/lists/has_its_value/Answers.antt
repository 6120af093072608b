use Rattle.cf_lowerable_open.specs.Lists.{has_value_one}
use Rattle.cf_lowerable_open.proofs.Telling.{any_found, any_none, any_past}
use Rattle.cf_lowerable_open.proofs.lists.has_its_value.Goals as goal

pub returns-then-has_its_value : goal.returns-then-has_its_value
returns-then-has_its_value c =
    any_found (λ x. has_value_one c.args.local x) c.args.all.now c.loop-x.x-index _ c.loop-x.invariant c.x-item.result c.loop-x-test.true c.x-item.is c.has_its_value.result c.has_its_value.ensures c.if-has_its_value.true

pub loop-x-preserved : goal.loop-x-preserved
loop-x-preserved c =
    any_past (λ x. has_value_one c.args.local x) c.args.all.now c.loop-x.x-index _ c.loop-x.invariant c.x-item.result c.loop-x-test.true c.x-item.is c.has_its_value.result c.has_its_value.ensures c.if-has_its_value.false

pub returns : goal.returns
returns c = any_none (λ x. has_value_one c.args.local x) c.args.all.now c.loop-x.x-index _ c.loop-x.invariant c.loop-x-test.false
