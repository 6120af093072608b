use Rattle.std.proofs.Common.{◌≡◌, ◌+◌, None, drop}
use Rattle.cc_whole_step.specs.Frames.{last_local}
use Rattle.cc_whole_step.proofs.frames.local_named.Given as goal

abbrev pub invariant-loop-i : goal.invariant-loop-i
invariant-loop-i l = last_local l.found (l.first + l.i) (drop l.i l.locals) l.name ≡ last_local None l.first l.locals l.name
