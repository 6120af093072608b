use Rattle.cc_whole_print.specs.Units.{parameter_text}
use Rattle.cc_whole_print.proofs.Pieces.{commas_step}
use Rattle.cc_whole_print.proofs.unit.parameters.Goals as goal

pub loop-at-preserved : goal.loop-at-preserved
loop-at-preserved c =
    commas_step parameter_text c.as_slice-one-items.result.now c.loop-at.at c.one-item.result c.put_if.new.out.items c.loop-at.out.items
    c.put_if-in-loop-at.new.out.items c.parameter.new.out.items c.loop-at-test.true c.one-item.is c.loop-at.invariant c.in_ok-put_if-2.ensures
    c.in_ok-parameter.ensures
