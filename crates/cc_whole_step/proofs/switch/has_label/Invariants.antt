use Rattle.std.proofs.Common.{◌≡◌, length}
use Rattle.cc_whole_mean.specs.Mean.{has_label}
use Rattle.cc_whole_step.specs.Running.{switch_of}
use Rattle.cc_whole_step.proofs.switch.has_label.Given as goal

abbrev pub invariant-loop-first : goal.invariant-loop-first
invariant-loop-first l = has_label l.bits (switch_of l.items) ≡ has_label l.bits (switch_of l.fn.items)

abbrev pub decreases-loop-first : goal.decreases-loop-first
decreases-loop-first l = length l.items
