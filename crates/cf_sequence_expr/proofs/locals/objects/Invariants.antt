use Rattle.std.proofs.Common.{◌≡◌, ◌++◌, drop}
use Rattle.cf_sequence_expr.proofs.locals.objects.Given as goal

abbrev pub invariant-loop-parameter : goal.invariant-loop-parameter
invariant-loop-parameter l = l.types ++ drop l.parameter-index l.parameter-items ≡ l.initial.types ++ l.parameter-items
