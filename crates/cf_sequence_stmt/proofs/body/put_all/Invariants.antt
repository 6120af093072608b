use Rattle.std.proofs.Common.{◌≡◌, ◌++◌, drop}
use Rattle.cf_sequence_stmt.proofs.body.put_all.Given as goal

abbrev pub invariant-loop-x : goal.invariant-loop-x
invariant-loop-x l = l.scope ++ drop l.x-index l.locals ≡ l.initial.scope ++ l.locals
