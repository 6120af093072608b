use Rattle.std.proofs.Common.{◌≡◌, drop}
use Rattle.cc_whole_valid.specs.CheckingItems as spec
use Rattle.cc_whole_valid.proofs.variables.pairs_from.Given as goal

abbrev pub invariant-loop-pair : goal.invariant-loop-pair
invariant-loop-pair l = spec.pairs_from (drop l.pair-index l.pairs) l.names l.at ≡ spec.pairs_from l.pairs l.names l.initial.at
