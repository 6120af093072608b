use Rattle.std.proofs.Common.{arith, rules}
use Rattle.std.proofs.lemmas.Result.{err_from_is_err_and}
use Rattle.cc_whole_reading.specs.Constants.{keeps}
use Rattle.cc_whole_reading.specs.Parse.{goes_on}
use Rattle.cc_whole_read_items.specs.ReadItems.{one_item}
use Rattle.cc_whole_reading.proofs.Steps.{loop_stops, loop_ends, loop_fails, loop_next}
use Rattle.cc_whole_read_items.proofs.item.items.Goals as goal

pub returns-then-is_end : goal.returns-then-is_end
returns-then-is_end c = loop_stops goes_on (one_item (keeps c.args.constants) c.args.depth) _ _ _ _ _ _ _ _ c.loop-turn.invariant c.len-turn-end.ensures c.new-found.ensures (search rules)

pub returns-in_err-one_item : goal.returns-in_err-one_item
returns-in_err-one_item c =
    let p = err_from_is_err_and c.from_residual.result c.from_residual.ensures.1 in
    rw (p.1, p.2)
    (loop_fails goes_on (one_item (keeps c.args.constants) c.args.depth) _ _ _ _ _ _ _ _ c.loop-turn.invariant c.len-turn-end.ensures c.new-found.ensures _ (omega arith) (search rules)
    c.in_err-one_item.ensures)

pub loop-turn-preserved : goal.loop-turn-preserved
loop-turn-preserved c =
    loop_next goes_on (one_item (keeps c.args.constants) c.args.depth) _ _ _ _ _ _ _ _ c.loop-turn.invariant c.len-turn-end.ensures c.new-found.ensures _ _ _ (omega arith) (search rules)
    c.in_ok-one_item.ensures (search rules)

pub returns : goal.returns
returns c = loop_ends goes_on (one_item (keeps c.args.constants) c.args.depth) _ _ _ _ _ _ _ _ c.loop-turn.invariant c.len-turn-end.ensures c.new-found.ensures (omega arith)
