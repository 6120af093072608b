use Rattle.std.proofs.Common.{refl}
use Rattle.cc_whole.specs.Plain.{items_of}
use Rattle.cf_lower_unit.specs.Pieces.{objects_of}
use Rattle.cf_lower_unit.proofs.Turns.{no_more, objects_more}
use Rattle.cf_lower_unit.proofs.variables.define_statics.Goals as goal

pub loop-x-preserved : goal.loop-x-preserved
loop-x-preserved c =
    objects_more c.args.tables.now c.args.all.now c.loop-x.x-index c.x-item.result c.loop-x-test.true c.x-item.is c.in_ok-variable.variable (items_of c.loop-x.made)
    (items_of c.push.new.made) _ c.loop-x.invariant c.in_ok-variable.ensures c.in_ok-push.ensures

pub returns : goal.returns
returns c =
    no_more (objects_of c.args.tables.now) refl c.args.all.now c.loop-x.x-index (items_of c.loop-x.made) _ c.loop-x-test.false c.loop-x.invariant
