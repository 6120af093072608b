use Rattle.std.proofs.Common.{◌≡◌, ◌++◌, length, map}
use Rattle.cf_lower.specs.Functions.{each_once}
use Rattle.cf_lower_fn.specs.Parts.{for_result}
use Rattle.cf_lower_fn.proofs.results.add_each.Given as goal

abbrev pub invariant-loop-ty : goal.invariant-loop-ty
invariant-loop-ty l = l.made ++ map for_result (each_once l.rest) ≡ l.initial.made ++ map for_result (each_once l.all)

abbrev pub decreases-loop-ty : goal.decreases-loop-ty
decreases-loop-ty l = length l.rest
