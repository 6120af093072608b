use Rattle.std.proofs.Common.{◌≡◌, [], drop}
use Rattle.cc_whole_valid.specs.CheckingItems as spec
use Rattle.cc_whole_valid.proofs.locals.some_from.Given as goal

abbrev pub invariant-loop-parameter : goal.invariant-loop-parameter
invariant-loop-parameter l = spec.some_from (drop l.parameter-index l.parameters) l.before l.at ≡ spec.some_from l.parameters [] l.initial.at
