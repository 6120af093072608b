use Rattle.std.proofs.Common.{refl}
use Rattle.cf_lower_fn.specs.Walks.{told}
use Rattle.cf_lower_unit.specs.Pieces.{all_done}
use Rattle.cf_lower_unit.proofs.Turns.{done_more, no_more}
use Rattle.cf_lower_unit.proofs.elsewhere.add_done.Goals as goal

pub loop-f-preserved : goal.loop-f-preserved
loop-f-preserved c =
    let told_of = told c.args.tables.now in
    done_more c.args.tables.now c.args.functions.now c.loop-f.f-index c.f-item.result c.loop-f-test.true c.f-item.is (told_of c.loop-f.out.items)
    (told_of c.actions.new.out.items) _ c.loop-f.invariant c.in_ok-actions.ensures

pub returns : goal.returns
returns c =
    no_more (all_done c.args.tables.now) refl c.args.functions.now c.loop-f.f-index (told c.args.tables.now c.loop-f.out.items) _ c.loop-f-test.false
    c.loop-f.invariant
