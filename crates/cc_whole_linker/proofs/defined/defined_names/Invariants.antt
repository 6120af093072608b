use Rattle.std.proofs.Common.{◌≡◌, ◌≤◌, length, drop}
use Rattle.cc_whole_linker.specs.Rules.{seen, defined_names}
use Rattle.cc_whole_linker.proofs.defined.defined_names.Given as goal

abbrev pub invariant-loop-left : goal.invariant-loop-left
invariant-loop-left l = record { within : l.left ≤ length l.all; names : l.names ≡ defined_names (seen (drop l.left l.all)) }

abbrev pub decreases-loop-left : goal.decreases-loop-left
decreases-loop-left l = l.left
