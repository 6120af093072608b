use Rattle.std.proofs.Common.{◌≡◌, ◌≤◌, length, take}
use Rattle.cc_whole_start.specs.Table.{scope_of as file_scope}
use Rattle.cc_whole_step.specs.Frames.{scope_over}
use Rattle.cc_whole_step.proofs.frames.named_above.Given as goal

abbrev pub invariant-loop-above : goal.invariant-loop-above
invariant-loop-above l = (l.above ≤ length l.marks)
    × (scope_over (file_scope l.file) (file_scope l.file) (take l.above l.marks) l.name ≡ scope_over (file_scope l.file) (file_scope l.file) l.marks l.name)

abbrev pub decreases-loop-above : goal.decreases-loop-above
decreases-loop-above l = l.above
