use Rattle.cf_lowerable_open.specs.Lists.{may_begin_one}
use Rattle.cf_lowerable_open.proofs.Telling.{any_found, any_none, any_past}
use Rattle.cf_lowerable_open.proofs.lists.may_begin.Goals as goal

pub returns-then-may_begin : goal.returns-then-may_begin
returns-then-may_begin c =
    any_found (λ x. may_begin_one c.args.local c.args.register x) c.args.all.now c.loop-x.x-index _ c.loop-x.invariant c.x-item.result c.loop-x-test.true c.x-item.is c.may_begin.result c.may_begin.ensures c.if-may_begin.true

pub loop-x-preserved : goal.loop-x-preserved
loop-x-preserved c =
    any_past (λ x. may_begin_one c.args.local c.args.register x) c.args.all.now c.loop-x.x-index _ c.loop-x.invariant c.x-item.result c.loop-x-test.true c.x-item.is c.may_begin.result c.may_begin.ensures c.if-may_begin.false

pub returns : goal.returns
returns c = any_none (λ x. may_begin_one c.args.local c.args.register x) c.args.all.now c.loop-x.x-index _ c.loop-x.invariant c.loop-x-test.false
