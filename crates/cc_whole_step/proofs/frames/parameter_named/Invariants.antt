use Rattle.std.proofs.Common.{◌≡◌, ◌+◌, None, drop}
use Rattle.cc_whole_step.specs.Frames.{last_parameter}
use Rattle.cc_whole_step.proofs.frames.parameter_named.Given as goal

abbrev pub invariant-loop-i : goal.invariant-loop-i
invariant-loop-i l = last_parameter l.found (l.first + l.i) (drop l.i l.parameters) l.name ≡ last_parameter None l.first l.parameters l.name
