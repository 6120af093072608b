use Rattle.std.proofs.Common.{◌≡◌, [], drop}
use Rattle.cc_whole_valid.specs.Checking as spec
use Rattle.cc_whole_valid.proofs.locals.locals_from.Given as goal

abbrev pub invariant-loop-local : goal.invariant-loop-local
invariant-loop-local l = spec.locals_from (drop l.local-index l.locals) l.before l.at ≡ spec.locals_from l.locals [] l.initial.at
