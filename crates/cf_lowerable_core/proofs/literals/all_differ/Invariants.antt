use Rattle.std.proofs.Common.{◌≡◌, ◌≤◌, true, length, drop}
use Rattle.cf_core.specs.Valid as valid
use Rattle.cf_lowerable_core.proofs.literals.all_differ.Given as goal

-- the names from here on differ
abbrev pub invariant-loop-left : goal.invariant-loop-left
invariant-loop-left l = record {
  within : l.left ≤ length l.all;
  names : l.behind ≡ drop l.left l.all;
  differ : valid.all_differ (drop l.left l.all) ≡ true;
}

abbrev pub decreases-loop-left : goal.decreases-loop-left
decreases-loop-left l = l.left
