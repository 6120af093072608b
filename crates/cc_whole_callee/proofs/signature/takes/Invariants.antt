use Rattle.std.proofs.Common.{◌≡◌, length}
use Rattle.cc_whole_mean.specs.Callee.{same_types}
use Rattle.cc_whole_callee.specs.View.{types_of}
use Rattle.cc_whole_callee.proofs.signature.takes.Given as goal

abbrev pub invariant-loop-ty : goal.invariant-loop-ty
invariant-loop-ty l = same_types l.types (types_of l.parameters) ≡ same_types l.fn.types (types_of l.fn.parameters)

abbrev pub decreases-loop-ty : goal.decreases-loop-ty
decreases-loop-ty l = length l.types
