use Rattle.std.proofs.Common.{◌≡◌, ◌++◌, drop}
use Rattle.cf_sequence_fn.specs.Functions.{opens_from}
use Rattle.cf_sequence_fn.proofs.definitions.open_parameters.Given as goal

abbrev pub invariant-loop-ty : goal.invariant-loop-ty
invariant-loop-ty l = l.open ++ opens_from l.number (drop l.ty-index l.parameters) ≡ opens_from 0 l.parameters
