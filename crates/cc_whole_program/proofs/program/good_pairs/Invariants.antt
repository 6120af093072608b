use Rattle.std.proofs.Common.{◌≡◌, drop}
use Rattle.cc_whole_program.specs.Uses.{good_pairs}
use Rattle.cc_whole_program.proofs.program.good_pairs.Given as goal

abbrev pub invariant-loop-pair : goal.invariant-loop-pair
invariant-loop-pair l = good_pairs (drop l.pair-index l.pairs) l.defined ≡ good_pairs l.pairs l.defined
