use Rattle.std.proofs.Common.{refl}
use Rattle.cc_whole.specs.Plain.{function_of, items_of}
use Rattle.cf_lower_unit.specs.Pieces.{bodies_of}
use Rattle.cf_lower_unit.proofs.Turns.{bodies_more, no_more}
use Rattle.cf_lower_unit.proofs.functions.define_functions.Goals as goal

pub loop-f-preserved : goal.loop-f-preserved
loop-f-preserved c =
    bodies_more c.args.tables.now c.args.all.now c.loop-f.f-index c.f-item.result c.loop-f-test.true c.f-item.is (function_of c.in_ok-function.function)
    (items_of c.loop-f.made) (items_of c.push.new.made) _ c.loop-f.invariant c.in_ok-function.ensures c.in_ok-push.ensures

pub returns : goal.returns
returns c =
    no_more (bodies_of c.args.tables.now) refl c.args.all.now c.loop-f.f-index (items_of c.loop-f.made) _ c.loop-f-test.false c.loop-f.invariant
