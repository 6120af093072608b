use Rattle.std.proofs.Common.{arith, rules}
use Rattle.std.proofs.lemmas.Result.{err_from_is_err_and}
use Rattle.cc_whole_reading.specs.Constants.{keeps}
use Rattle.cc_whole_reading.proofs.Steps.{loop_stops, loop_ends, loop_fails, loop_next}
use Rattle.cc_whole_read_types.specs.ReadTypes.{sees_type}
use Rattle.cc_whole_read_body.specs.ReadBody.{local_line}
use Rattle.cc_whole_read_body.proofs.parts.locals.Goals as goal

pub returns-then-not-sees_type : goal.returns-then-not-sees_type
returns-then-not-sees_type c = loop_stops sees_type (local_line (keeps c.args.constants)) _ _ _ _ _ _ _ _ c.loop-turn.invariant c.len-turn-end.ensures c.new-found.ensures (search rules)

pub returns-in_err-local_line : goal.returns-in_err-local_line
returns-in_err-local_line c =
    let p = err_from_is_err_and c.from_residual.result c.from_residual.ensures.1 in
    rw (p.1, p.2)
    (loop_fails sees_type (local_line (keeps c.args.constants)) _ _ _ _ _ _ _ _ c.loop-turn.invariant c.len-turn-end.ensures c.new-found.ensures _ (omega arith) (search rules) c.in_err-local_line.ensures)

pub loop-turn-preserved : goal.loop-turn-preserved
loop-turn-preserved c =
    loop_next sees_type (local_line (keeps c.args.constants)) _ _ _ _ _ _ _ _ c.loop-turn.invariant c.len-turn-end.ensures c.new-found.ensures _ _ _ (omega arith) (search rules)
    c.in_ok-local_line.ensures (search rules)

pub returns : goal.returns
returns c = loop_ends sees_type (local_line (keeps c.args.constants)) _ _ _ _ _ _ _ _ c.loop-turn.invariant c.len-turn-end.ensures c.new-found.ensures (omega arith)
