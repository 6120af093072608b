use Rattle.std.proofs.Common.{◌≡◌, ◌≤◌, length, take}
use Rattle.cf_lookup.specs.Scope.{found_in}
use Rattle.cf_lookup.proofs.scopes.find_in.Given as goal

-- the scopes from here on don't have the name
abbrev pub invariant-loop-around : goal.invariant-loop-around
invariant-loop-around l = (l.around ≤ length l.scopes) × (found_in l.name l.scopes ≡ found_in l.name (take l.around l.scopes))

abbrev pub decreases-loop-around : goal.decreases-loop-around
decreases-loop-around l = l.around
