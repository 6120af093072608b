use Rattle.std.proofs.Common.{refl}
use Rattle.cf_lower_kept.specs.Opened.{further_counts, number_in, overwritten}
use Rattle.cf_lowerable_open.proofs.Telling.{change_end, change_more}
use Rattle.cf_lowerable_open.proofs.changes.place_further.Goals as goal

pub loop-x-preserved : goal.loop-x-preserved
loop-x-preserved c =
    change_more (λ x. overwritten c.args.register (further_counts (number_in x.last c.args.by) (x.places c.args.from)) x) c.loop-x.x-index c.deref_mut-x-items.result.now c.loop-x.x-items c.loop-x.invariant _ c.x-item.result c.place_further_in.new.x c.loop-x-test.true
    c.x-item.is c.in_ok-place_further_in.ensures refl

pub returns : goal.returns
returns c =
    change_end (λ x. overwritten c.args.register (further_counts (number_in x.last c.args.by) (x.places c.args.from)) x) c.loop-x.x-index c.deref_mut-x-items.result.now c.loop-x.x-items c.loop-x.invariant c.args.all.now.len c.args.all.now.items c.loop-x-test.false
    c.args.all.now.ok.0 c.deref_mut-x-items.ensures.value
