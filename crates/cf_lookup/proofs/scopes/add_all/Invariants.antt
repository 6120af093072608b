use Rattle.std.proofs.Common.{◌≡◌, ◌≤◌, ◌++◌, length, take}
use Rattle.cf_lookup.specs.Scope.{all_in}
use Rattle.cf_lookup.proofs.scopes.add_all.Given as goal

abbrev pub invariant-loop-around : goal.invariant-loop-around
invariant-loop-around l = record {
  within : l.around ≤ length l.scopes;
  so_far : l.found.items ++ all_in l.name (take l.around l.scopes) ≡ l.initial.found.items ++ all_in l.name l.scopes;
}

abbrev pub decreases-loop-around : goal.decreases-loop-around
decreases-loop-around l = l.around
