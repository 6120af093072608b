use Rattle.cf_core.specs.FromUnit.{static_of}
use Rattle.cf_lowerable_core.specs.Named.{static_literals}
use Rattle.cf_lowerable_core.proofs.Puts.{put_more}
use Rattle.cf_lowerable_core.proofs.literals.add_statics.Goals as goal

pub loop-x-preserved : goal.loop-x-preserved
loop-x-preserved c = λ tables.
    put_more (static_of tables) static_literals c.args.all.now c.loop-x.x-index c.x-item.result c.loop-x-test.true c.x-item.is c.loop-x.names
    c.add_static.new.names _ (c.in_ok-add_static.ensures tables) (c.loop-x.invariant tables)
