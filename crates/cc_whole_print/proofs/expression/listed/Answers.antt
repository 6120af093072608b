use Rattle.cc_whole_print.specs.Expressions.{whole_text}
use Rattle.cc_whole_print.proofs.Pieces.{commas_step}
use Rattle.cc_whole_print.proofs.expression.listed.Goals as goal

pub loop-at-preserved : goal.loop-at-preserved
loop-at-preserved c =
    commas_step whole_text c.as_slice-expr-items.result.now c.loop-at.at c.expr-item.result c.args.out.now.items c.loop-at.out.items c.put_if.new.out.items
    c.whole.new.out.items c.loop-at-test.true c.expr-item.is c.loop-at.invariant c.in_ok-put_if.ensures c.in_ok-whole.ensures
