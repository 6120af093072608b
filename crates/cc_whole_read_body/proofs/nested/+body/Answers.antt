use Rattle.std.proofs.Common.{arith, rules, ◌-◌}
use Rattle.std.proofs.lemmas.Result.{err_from_is_err_and}
use Rattle.cc_whole_tokens.specs.declared.mark.Mark.TheVariants as mark
use Rattle.cc_whole_reading.specs.Parse.{sees_not}
use Rattle.cc_whole_reading.specs.Constants.{keeps}
use Rattle.cc_whole_reading.proofs.Steps.{loop_stops, loop_ends, loop_fails, loop_next}
use Rattle.cc_whole_read_body.specs.ReadBody.{switch_item, one_statement}
use Rattle.cc_whole_read_body.proofs.Rounds.{statement_zero, statement_step}
use Rattle.cc_whole_read_body.proofs.nested.+body.Goals as goal

pub statements-returns-then-sees : goal.statements-returns-then-sees
statements-returns-then-sees t c = loop_stops (sees_not mark.RightBrace) (one_statement (keeps c.args.constants) c.args.depth) _ _ _ _ _ _ _ _ c.loop-turn.invariant c.len-turn-end.ensures c.new-found.ensures (search rules)

pub statements-returns-in_err-statement : goal.statements-returns-in_err-statement
statements-returns-in_err-statement t c =
    let p = err_from_is_err_and c.from_residual.result c.from_residual.ensures.1 in
    rw (p.1, p.2)
    (loop_fails (sees_not mark.RightBrace) (one_statement (keeps c.args.constants) c.args.depth) _ _ _ _ _ _ _ _ c.loop-turn.invariant c.len-turn-end.ensures c.new-found.ensures _ (omega arith) (search rules) c.in_err-statement.ensures)

pub statements-loop-turn-preserved : goal.statements-loop-turn-preserved
statements-loop-turn-preserved t c =
    loop_next (sees_not mark.RightBrace) (one_statement (keeps c.args.constants) c.args.depth) _ _ _ _ _ _ _ _ c.loop-turn.invariant c.len-turn-end.ensures c.new-found.ensures _ _ _ (omega arith) (search rules)
    c.in_ok-statement.ensures (search rules)

pub statements-returns : goal.statements-returns
statements-returns t c = loop_ends (sees_not mark.RightBrace) (one_statement (keeps c.args.constants) c.args.depth) _ _ _ _ _ _ _ _ c.loop-turn.invariant c.len-turn-end.ensures c.new-found.ensures (omega arith)

pub switch_items-returns-then-sees : goal.switch_items-returns-then-sees
switch_items-returns-then-sees t c = loop_stops (sees_not mark.RightBrace) (switch_item (keeps c.args.constants) (one_statement (keeps c.args.constants) c.args.depth)) _ _ _ _ _ _ _ _ c.loop-turn.invariant c.len-turn-end.ensures c.new-found.ensures (search rules)

pub switch_items-returns-in_err-switch_item : goal.switch_items-returns-in_err-switch_item
switch_items-returns-in_err-switch_item t c =
    let p = err_from_is_err_and c.from_residual.result c.from_residual.ensures.1 in
    rw (p.1, p.2)
    (loop_fails (sees_not mark.RightBrace) (switch_item (keeps c.args.constants) (one_statement (keeps c.args.constants) c.args.depth)) _ _ _ _ _ _ _ _ c.loop-turn.invariant c.len-turn-end.ensures c.new-found.ensures _ (omega arith) (search rules) c.in_err-switch_item.ensures)

pub switch_items-loop-turn-preserved : goal.switch_items-loop-turn-preserved
switch_items-loop-turn-preserved t c =
    loop_next (sees_not mark.RightBrace) (switch_item (keeps c.args.constants) (one_statement (keeps c.args.constants) c.args.depth)) _ _ _ _ _ _ _ _ c.loop-turn.invariant c.len-turn-end.ensures c.new-found.ensures _ _ _ (omega arith) (search rules)
    c.in_ok-switch_item.ensures (search rules)

pub switch_items-returns : goal.switch_items-returns
switch_items-returns t c = loop_ends (sees_not mark.RightBrace) (switch_item (keeps c.args.constants) (one_statement (keeps c.args.constants) c.args.depth)) _ _ _ _ _ _ _ _ c.loop-turn.invariant c.len-turn-end.ensures c.new-found.ensures (omega arith)

pub statement-returns-then-depth-eq0 : goal.statement-returns-then-depth-eq0
statement-returns-then-depth-eq0 t c = rw c.refusal.ensures (statement_zero (keeps c.args.constants) c.args.depth c.args.c.now (omega arith))

pub statement-returns : goal.statement-returns
statement-returns t c = rw (statement_step (keeps c.args.constants) c.args.depth (c.args.depth - 1) c.args.c.now (omega arith)) c.statement_within.ensures
