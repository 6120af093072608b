use Rattle.std.proofs.Common.{◌≡◌, ◌++◌, ◌≤◌, length, drop}
use Rattle.cc_whole.specs.Known.{locals_named}
use Rattle.cc_whole_valid.proofs.locals.add_locals.Given as goal

abbrev pub invariant-loop-left : goal.invariant-loop-left
invariant-loop-left l = record { within : l.left ≤ length l.locals; names : l.names ≡ locals_named (drop l.left l.locals) ++ l.initial.names }

abbrev pub decreases-loop-left : goal.decreases-loop-left
decreases-loop-left l = l.left
