use Rattle.std.proofs.Common.{◌≡◌, ◌++◌}
use Rattle.cf_lower.specs.Functions.{registers}
use Rattle.cf_lower_fn.proofs.locals.add_registers.Given as goal

abbrev pub invariant-loop-number : goal.invariant-loop-number
invariant-loop-number l = l.made ≡ l.initial.made ++ registers l.number
