use Rattle.std.proofs.Common.{◌≡◌, ◌++◌, ◌-◌}
use Rattle.cf_sequence_expr.specs.Parameters.{counted}
use Rattle.cf_sequence_expr.proofs.function_types.numbers.Given as goal

abbrev pub invariant-loop : goal.invariant-loop
invariant-loop l = l.made ++ counted l.number (l.count - l.counter) ≡ counted l.first l.count
