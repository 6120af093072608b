use Rattle.std.proofs.Common.{◌≡◌, ◌≤◌, length, drop}
use Rattle.cc_whole.specs.Plain.{items_of}
use Rattle.cc_whole_link.specs.Placed.{statics}
use Rattle.cc_whole_placed.proofs.statics.static_names.Given as goal

abbrev pub invariant-loop-left : goal.invariant-loop-left
invariant-loop-left l = record { within : l.left ≤ length l.items; names : l.names ≡ statics (items_of (drop l.left l.items)) }

abbrev pub decreases-loop-left : goal.decreases-loop-left
decreases-loop-left l = l.left
