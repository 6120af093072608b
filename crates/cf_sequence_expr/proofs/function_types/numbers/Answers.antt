use Rattle.cf_sequence_expr.proofs.Counting.{one_number}
use Rattle.cf_sequence_expr.proofs.function_types.numbers.Goals as goal

pub loop-preserved : goal.loop-preserved
loop-preserved c =
    one_number c.loop.made c.push.new.self _ c.loop.number c.in_ok-number.number c.args.count c.loop.counter c.loop-test.true c.in_ok-push.ensures.ok
    c.in_ok-number.ensures c.loop.invariant
