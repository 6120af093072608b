use Rattle.std.proofs.Common.{◌≡◌, ◌++◌}
use Rattle.cf_lower.specs.Functions.{flags}
use Rattle.cf_lower_fn.proofs.locals.add_flags.Given as goal

abbrev pub invariant-loop-flag : goal.invariant-loop-flag
invariant-loop-flag l = l.made ≡ l.initial.made ++ flags l.flag
