use Rattle.cc_whole_print.specs.Types.{type_text}
use Rattle.cc_whole_print.proofs.Pieces.{commas_copied}
use Rattle.cc_whole_print.proofs.types.types.Goals as goal

pub loop-at-preserved : goal.loop-at-preserved
loop-at-preserved c =
    commas_copied type_text c.as_slice-one-items.result.now c.loop-at.at _ c.put_if.new.out.items c.loop-at.out.items
    c.put_if-in-loop-at.new.out.items c.type_name.new.out.items c.loop-at-test.true c.loop-at.invariant c.in_ok-put_if-2.ensures
    c.in_ok-type_name.ensures
