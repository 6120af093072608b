use Rattle.std.proofs.Common.{if◌then◌else◌, refl}
use Rattle.cf_lower_kept.specs.Opened.{is_local}
use Rattle.cf_lowerable_open.specs.Lists.{begun_with}
use Rattle.cf_lowerable_open.proofs.Telling.{change_end, change_more}
use Rattle.cf_lowerable_open.proofs.changes.begin_all.Goals as goal

pub loop-x-preserved : goal.loop-x-preserved
loop-x-preserved c =
    change_more (λ x. if is_local c.args.local x then begun_with c.args.register c.args.counts.now x else x) c.loop-x.x-index c.deref_mut-x-items.result.now c.loop-x.x-items c.loop-x.invariant _ c.x-item.result c.begin_in.new.x c.loop-x-test.true
    c.x-item.is c.in_ok-begin_in.ensures refl

pub returns : goal.returns
returns c =
    change_end (λ x. if is_local c.args.local x then begun_with c.args.register c.args.counts.now x else x) c.loop-x.x-index c.deref_mut-x-items.result.now c.loop-x.x-items c.loop-x.invariant c.args.all.now.len c.args.all.now.items c.loop-x-test.false
    c.args.all.now.ok.0 c.deref_mut-x-items.ensures.value
