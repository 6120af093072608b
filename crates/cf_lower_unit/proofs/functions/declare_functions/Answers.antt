use Rattle.std.proofs.Common.{refl}
use Rattle.cc_whole.specs.Plain.{items_of}
use Rattle.cf_lower_unit.specs.Pieces.{own_heads}
use Rattle.cf_lower_unit.proofs.Turns.{heads_more, no_more}
use Rattle.cf_lower_unit.proofs.functions.declare_functions.Goals as goal

pub loop-f-preserved : goal.loop-f-preserved
loop-f-preserved c =
    heads_more c.args.tables.now c.args.all.now c.loop-f.f-index c.f-item.result c.loop-f-test.true c.f-item.is c.in_ok-head.head (items_of c.loop-f.made)
    (items_of c.push.new.made) _ c.loop-f.invariant c.in_ok-head.ensures c.in_ok-push.ensures

pub returns : goal.returns
returns c =
    no_more (own_heads c.args.tables.now) refl c.args.all.now c.loop-f.f-index (items_of c.loop-f.made) _ c.loop-f-test.false c.loop-f.invariant
