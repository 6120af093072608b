use Rattle.std.proofs.Common.{refl}
use Rattle.cc_whole.specs.Plain.{items_of}
use Rattle.cf_lower_unit.specs.Pieces.{start_texts_of}
use Rattle.cf_lower_unit.proofs.Turns.{no_more, start_texts_more}
use Rattle.cf_lower_unit.proofs.literals.start_literals.Goals as goal

pub loop-x-preserved : goal.loop-x-preserved
loop-x-preserved c =
    start_texts_more c.args.tables.now c.args.all.now c.loop-x.x-index c.x-item.result c.loop-x-test.true c.x-item.is (items_of c.loop-x.made)
    (items_of c.literals_of_start.new.made) _ c.loop-x.invariant c.in_ok-literals_of_start.ensures

pub returns : goal.returns
returns c =
    no_more (start_texts_of c.args.tables.now) refl c.args.all.now c.loop-x.x-index (items_of c.loop-x.made) _ c.loop-x-test.false c.loop-x.invariant
