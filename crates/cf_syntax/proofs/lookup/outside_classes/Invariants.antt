use Rattle.std.proofs.Common.{◌≡◌, ◌≤◌, length}
use Rattle.cf_syntax.specs.Entered.{outside_in}
use Rattle.cf_syntax.proofs.lookup.outside_classes.Given as goal

abbrev pub invariant-loop-left : goal.invariant-loop-left
invariant-loop-left l = record { within : l.left ≤ length l.scopes; same : outside_in l.left l.scopes ≡ outside_in (length l.scopes) l.scopes }

abbrev pub decreases-loop-left : goal.decreases-loop-left
decreases-loop-left l = l.left
