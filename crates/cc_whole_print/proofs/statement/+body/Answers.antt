use Rattle.cc_whole_print.specs.Statements.{statement_text, switch_item_text}
use Rattle.cc_whole_print.proofs.Pieces.{concat_step}
use Rattle.cc_whole_print.proofs.statement.+body.Goals as goal

pub statements-loop-one-preserved : goal.statements-loop-one-preserved
statements-loop-one-preserved t c =
    concat_step statement_text c.as_slice-one-items.result.now c.loop-one.one-index c.one-item.result c.args.out.now.items c.loop-one.out.items
    c.statement.new.out.items c.loop-one-test.true c.one-item.is c.loop-one.invariant c.in_ok-statement.ensures

pub switch_items-loop-one-preserved : goal.switch_items-loop-one-preserved
switch_items-loop-one-preserved t c =
    concat_step switch_item_text c.as_slice-one-items.result.now c.loop-one.one-index c.one-item.result c.args.out.now.items c.loop-one.out.items
    c.switch_item.new.out.items c.loop-one-test.true c.one-item.is c.loop-one.invariant c.in_ok-switch_item.ensures
