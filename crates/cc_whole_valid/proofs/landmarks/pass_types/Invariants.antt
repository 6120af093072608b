use Rattle.std.proofs.Common.{◌≡◌, drop}
use Rattle.cc_whole_valid.specs.Checking.{types_from}
use Rattle.cc_whole_valid.proofs.landmarks.pass_types.Given as goal

abbrev pub invariant-loop-t : goal.invariant-loop-t
invariant-loop-t l = types_from (drop l.t-index l.types) l.at ≡ types_from l.types l.initial.at
