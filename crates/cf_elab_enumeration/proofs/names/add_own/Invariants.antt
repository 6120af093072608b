use Rattle.std.proofs.Common.{◌≡◌, ◌≤◌, ◌++◌, length, drop}
use Rattle.cf_elab_enumeration.proofs.names.add_own.Given as goal

abbrev pub invariant-loop-left : goal.invariant-loop-left
invariant-loop-left l = record { within : l.left ≤ length l.own; names : l.before ≡ drop l.left l.own ++ l.initial.before }

abbrev pub decreases-loop-left : goal.decreases-loop-left
decreases-loop-left l = l.left
