use Rattle.std.proofs.Common.{refl}
use Rattle.cc_whole.specs.Plain.{items_of}
use Rattle.cf_lower_unit.specs.Pieces.{texts_of}
use Rattle.cf_lower_unit.proofs.Turns.{no_more, texts_more}
use Rattle.cf_lower_unit.proofs.literals.function_literals.Goals as goal

pub loop-f-preserved : goal.loop-f-preserved
loop-f-preserved c =
    texts_more c.args.tables.now c.args.all.now c.loop-f.f-index c.f-item.result c.loop-f-test.true c.f-item.is (items_of c.loop-f.made)
    (items_of c.literals_of.new.made) _ c.loop-f.invariant c.in_ok-literals_of.ensures

pub returns : goal.returns
returns c =
    no_more (texts_of c.args.tables.now) refl c.args.all.now c.loop-f.f-index (items_of c.loop-f.made) _ c.loop-f-test.false c.loop-f.invariant
