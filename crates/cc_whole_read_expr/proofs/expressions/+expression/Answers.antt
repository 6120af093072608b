use Rattle.std.proofs.Common.{◌-◌, subst, arith, rules}
use Rattle.std.proofs.lemmas.Result.{err_from_is_err_and}
use Rattle.cc_whole_reading.specs.Parse.{Fails}
use Rattle.cc_whole_read_expr.specs.ReadExpr.{operand, binary}
use Rattle.cc_whole_reading.specs.Constants.{keeps}
use Rattle.cc_whole_read_expr.proofs.Turns.{binary_zero, binary_reads, binary_fails, operand_zero, operand_step, operands_end_loop, operands_stop_loop, operands_fail_loop, operands_next_loop}
use Rattle.cc_whole_read_expr.proofs.expressions.+expression.Goals as goal

pub binary-returns-then-level-eq0 : goal.binary-returns-then-level-eq0
binary-returns-then-level-eq0 t c = rw (binary_zero (operand (keeps c.args.constants) c.args.depth) c.args.level c.args.c.now (omega arith)) c.operand.ensures

pub binary-returns-in_err-first : goal.binary-returns-in_err-first
binary-returns-in_err-first t c =
    let p = err_from_is_err_and c.from_residual.result c.from_residual.ensures.1 in
    rw (p.1, p.2) (binary_fails (operand (keeps c.args.constants) c.args.depth) c.args.level (c.args.level - 1) c.args.c.now _ (omega arith) c.in_err-first.ensures)

pub binary-returns : goal.binary-returns
binary-returns t c =
    rw (binary_reads (operand (keeps c.args.constants) c.args.depth) c.args.level (c.args.level - 1) c.args.c.now c.in_ok-first.first _ (omega arith) c.in_ok-first.ensures)
    c.more_operands.ensures

pub operand-returns-then-depth-eq0 : goal.operand-returns-then-depth-eq0
operand-returns-then-depth-eq0 t c = rw c.refusal.ensures (operand_zero (keeps c.args.constants) c.args.depth c.args.c.now (omega arith))

pub operand-returns : goal.operand-returns
operand-returns t c = rw (operand_step (keeps c.args.constants) c.args.depth (c.args.depth - 1) c.args.c.now (omega arith)) c.operand_within.ensures

pub more_operands-returns-in-None : goal.more_operands-returns-in-None
more_operands-returns-in-None t c = operands_stop_loop _ _ _ _ _ _ _ _ _ c.loop-turn.invariant c.len-turn-end.ensures (search rules)

pub more_operands-returns-in_err-right-in-Some : goal.more_operands-returns-in_err-right-in-Some
more_operands-returns-in_err-right-in-Some t c =
    let p = err_from_is_err_and c.from_residual.result c.from_residual.ensures.1 in
    rw (p.1, p.2)
    (operands_fail_loop _ _ _ _ _ _ _ _ _ c.loop-turn.invariant c.len-turn-end.ensures c.in-Some.operator _ (omega arith) (search rules)
    (subst (λ l. Fails (binary (operand (keeps c.args.constants) c.args.depth) c.args.level l) c.in_err-right-in-Some.field-0.0) c.skip.ensures c.in_err-right-in-Some.ensures))

pub more_operands-loop-turn-preserved : goal.more_operands-loop-turn-preserved
more_operands-loop-turn-preserved t c =
    operands_next_loop _ _ _ _ _ _ _ _ _ c.loop-turn.invariant c.len-turn-end.ensures c.in-Some.operator c.in_ok-right-in-Some.right _ _ (omega arith) (search rules)
    (search rules) (search rules)

pub more_operands-returns : goal.more_operands-returns
more_operands-returns t c = operands_end_loop _ _ _ _ _ _ _ _ _ c.loop-turn.invariant c.len-turn-end.ensures (omega arith)
