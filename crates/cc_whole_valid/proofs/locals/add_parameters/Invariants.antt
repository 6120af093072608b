use Rattle.std.proofs.Common.{◌≡◌, ◌++◌, ◌≤◌, length, drop}
use Rattle.cc_whole.specs.Known.{parameters_named}
use Rattle.cc_whole_valid.proofs.locals.add_parameters.Given as goal

abbrev pub invariant-loop-left : goal.invariant-loop-left
invariant-loop-left l = record { within : l.left ≤ length l.parameters; names : l.names ≡ parameters_named (drop l.left l.parameters) ++ l.initial.names }

abbrev pub decreases-loop-left : goal.decreases-loop-left
decreases-loop-left l = l.left
