use Rattle.std.proofs.Common.{◌≡◌, ◌++◌, ◌≤◌, length, drop}
use Rattle.cc_whole.specs.Uses.{local_names}
use Rattle.cc_whole_uses.proofs.uses.hide_locals.Given as goal

abbrev pub invariant-loop-left : goal.invariant-loop-left
invariant-loop-left l = record { within : l.left ≤ length l.locals; names : l.hidden ≡ local_names (drop l.left l.locals) ++ l.initial.hidden }

abbrev pub decreases-loop-left : goal.decreases-loop-left
decreases-loop-left l = l.left
