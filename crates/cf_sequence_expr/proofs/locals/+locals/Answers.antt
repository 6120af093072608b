use Rattle.std.proofs.lemmas.Result.{on_ok_weaker}
use Rattle.cf_sequence_expr.proofs.LoopLaws.{in_loop}
use Rattle.cf_sequence_expr.proofs.locals.+locals.Goals as goal

pub add_locals-returns-in_ok-add_locals_of_maybe-in-Loop-2 : goal.add_locals-returns-in_ok-add_locals_of_maybe-in-Loop-2
add_locals-returns-in_ok-add_locals_of_maybe-in-Loop-2 t c =
    on_ok_weaker c.add_locals-in-Loop.result
    (in_loop c.args.unit.now.types c.args.e.now c.in-Loop.at c.in-Loop.form c.in-Loop.condition c.in-Loop.step c.in-Loop.body c.get-in-Loop.result.now
    c.args.types.now c.add_locals_of_maybe-in-Loop.new.types c.add_locals_of_maybe-in-Loop-2.new.types c.add_locals-in-Loop.new.types c.in-Loop.is
    c.get-in-Loop.ensures c.in_ok-add_locals_of_maybe-in-Loop.ensures c.in_ok-add_locals_of_maybe-in-Loop-2.ensures)
    c.add_locals-in-Loop.ensures
