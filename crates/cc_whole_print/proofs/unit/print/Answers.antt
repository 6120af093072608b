use Rattle.cc_whole_print.specs.Units.{item_text}
use Rattle.cc_whole_print.proofs.Pieces.{concat_step}
use Rattle.cc_whole_print.proofs.unit.print.Goals as goal

pub loop-one-preserved : goal.loop-one-preserved
loop-one-preserved c =
    concat_step item_text c.as_slice-one-items.result.now c.loop-one.one-index c.one-item.result c.put_number_line.new.out.items c.loop-one.out.items
    c.item.new.out.items c.loop-one-test.true c.one-item.is c.loop-one.invariant c.in_ok-item.ensures
