use Rattle.std.proofs.Common.{◌≡◌, false, length}
use Rattle.std.specs.Prelude.{nat_lt}
use Rattle.cc_whole_nesting.specs.Nesting.{depth, nesting_limit, first_levels, passes_from}
use Rattle.cc_whole_nesting.proofs.nesting.is_too_deep.Given as goal

abbrev pub invariant-loop-rest : goal.invariant-loop-rest
invariant-loop-rest l = record {
  within : nat_lt nesting_limit (depth l.levels) ≡ false;
  passes : passes_from l.levels l.rest ≡ passes_from first_levels l.fn.tokens;
}

abbrev pub decreases-loop-rest : goal.decreases-loop-rest
decreases-loop-rest l = length l.rest
