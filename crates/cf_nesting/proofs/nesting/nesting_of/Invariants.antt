use Rattle.std.proofs.Common.{◌≡◌, false, length}
use Rattle.std.specs.Prelude.{nat_lt}
use Rattle.cf_unit.specs.Nesting.{depth, levels_from, nesting_limit, no_levels, passes, passes_from}
use Rattle.cf_nesting.proofs.nesting.nesting_of.Given as goal

abbrev pub invariant-loop-rest : goal.invariant-loop-rest
invariant-loop-rest l = record {
  within : nat_lt nesting_limit (depth l.levels) ≡ false;
  passes : passes_from l.levels l.rest ≡ passes l.fn.tokens;
  levels : levels_from l.levels l.rest ≡ levels_from no_levels l.fn.tokens;
}

abbrev pub decreases-loop-rest : goal.decreases-loop-rest
decreases-loop-rest l = length l.rest
