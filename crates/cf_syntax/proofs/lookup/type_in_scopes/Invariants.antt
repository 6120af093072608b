use Rattle.std.proofs.Common.{◌≡◌, ◌≤◌, length, drop, None}
use Rattle.cf_syntax.specs.Names.{newest}
use Rattle.cf_syntax.specs.Entered.{type_in}
use Rattle.cf_syntax.proofs.lookup.type_in_scopes.Given as goal

abbrev pub invariant-loop-left : goal.invariant-loop-left
invariant-loop-left l = record { within : l.left ≤ length l.scopes; none : newest (type_in l.classes l.name) (drop l.left l.scopes) ≡ None }

abbrev pub decreases-loop-left : goal.decreases-loop-left
decreases-loop-left l = l.left
