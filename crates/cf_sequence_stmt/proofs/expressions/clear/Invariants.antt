use Rattle.std.proofs.Common.{◌≡◌, drop}
use Rattle.cf_sequence_stmt.specs.Bodies.{cleared}
use Rattle.cf_sequence_stmt.proofs.expressions.clear.Given as goal

abbrev pub invariant-loop-x : goal.invariant-loop-x
invariant-loop-x l = cleared l.full (drop l.x-index l.made) l.w ≡ cleared l.full l.made l.initial.w
