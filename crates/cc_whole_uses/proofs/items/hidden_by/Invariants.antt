use Rattle.std.proofs.Common.{◌≡◌, ◌≤◌, length, drop}
use Rattle.cc_whole.specs.Uses.{parameter_names}
use Rattle.cc_whole_uses.proofs.items.hidden_by.Given as goal

abbrev pub invariant-loop-left : goal.invariant-loop-left
invariant-loop-left l = record { within : l.left ≤ length l.parameters; names : l.names ≡ parameter_names (drop l.left l.parameters) }

abbrev pub decreases-loop-left : goal.decreases-loop-left
decreases-loop-left l = l.left
