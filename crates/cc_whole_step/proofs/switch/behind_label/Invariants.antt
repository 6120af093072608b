use Rattle.std.proofs.Common.{◌≡◌, length}
use Rattle.cc_whole_step.specs.Running.{switch_of}
use Rattle.cc_whole_step.specs.Switch.{behind_label}
use Rattle.cc_whole_step.proofs.switch.behind_label.Given as goal

abbrev pub invariant-loop-first : goal.invariant-loop-first
invariant-loop-first l = behind_label l.label (switch_of l.items) ≡ behind_label l.label (switch_of l.fn.items)

abbrev pub decreases-loop-first : goal.decreases-loop-first
decreases-loop-first l = length l.items
