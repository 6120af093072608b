use Rattle.std.proofs.Common.{refl}
use Rattle.cf_lower_fn.specs.Walks.{told}
use Rattle.cf_lower_unit.specs.Pieces.{all_started}
use Rattle.cf_lower_unit.proofs.Turns.{no_more, started_more}
use Rattle.cf_lower_unit.proofs.elsewhere.add_started.Goals as goal

pub loop-x-preserved : goal.loop-x-preserved
loop-x-preserved c =
    let told_of = told c.args.tables.now in
    started_more c.args.tables.now c.args.statics.now c.loop-x.x-index c.x-item.result c.loop-x-test.true c.x-item.is (told_of c.loop-x.out.items)
    (told_of c.actions.new.out.items) _ c.loop-x.invariant c.in_ok-actions.ensures

pub returns : goal.returns
returns c =
    no_more (all_started c.args.tables.now) refl c.args.statics.now c.loop-x.x-index (told c.args.tables.now c.loop-x.out.items) _ c.loop-x-test.false
    c.loop-x.invariant
