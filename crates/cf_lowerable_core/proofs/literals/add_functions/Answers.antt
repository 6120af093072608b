use Rattle.cf_core.specs.FromUnit.{function_of}
use Rattle.cf_lowerable_core.specs.Named.{function_literals}
use Rattle.cf_lowerable_core.proofs.Puts.{put_more}
use Rattle.cf_lowerable_core.proofs.literals.add_functions.Goals as goal

pub loop-f-preserved : goal.loop-f-preserved
loop-f-preserved c = λ tables.
    put_more (function_of tables) function_literals c.args.all.now c.loop-f.f-index c.f-item.result c.loop-f-test.true c.f-item.is c.loop-f.names
    c.add_function.new.names _ (c.in_ok-add_function.ensures tables) (c.loop-f.invariant tables)
