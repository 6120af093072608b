use Rattle.cc_whole_print.specs.Types.{local_text}
use Rattle.cc_whole_print.proofs.Pieces.{concat_step}
use Rattle.cc_whole_print.proofs.statement.locals.Goals as goal

pub loop-one-preserved : goal.loop-one-preserved
loop-one-preserved c =
    concat_step local_text c.as_slice-one-items.result.now c.loop-one.one-index c.one-item.result c.args.out.now.items c.loop-one.out.items
    c.local.new.out.items c.loop-one-test.true c.one-item.is c.loop-one.invariant c.in_ok-local.ensures
