use Rattle.std.proofs.Common.{refl}
use Rattle.cf_lowerable_open.specs.Lists.{changed_by}
use Rattle.cf_lowerable_open.proofs.Telling.{change_end, change_more}
use Rattle.cf_lowerable_open.proofs.changes.change_all.Goals as goal

pub loop-x-preserved : goal.loop-x-preserved
loop-x-preserved c =
    change_more (changed_by c.args.change) c.loop-x.x-index c.deref_mut-x-items.result.now c.loop-x.x-items c.loop-x.invariant _ c.x-item.result c.alter.new.x c.loop-x-test.true
    c.x-item.is c.alter.ensures refl

pub returns : goal.returns
returns c =
    change_end (changed_by c.args.change) c.loop-x.x-index c.deref_mut-x-items.result.now c.loop-x.x-items c.loop-x.invariant c.args.all.now.len c.args.all.now.items c.loop-x-test.false
    c.args.all.now.ok.0 c.deref_mut-x-items.ensures.value
