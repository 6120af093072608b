use Rattle.std.proofs.Common.{◌≡◌, ◌++◌, drop}
use Rattle.cc_whole.specs.Uses.{uses_of_pairs}
use Rattle.cc_whole_uses.specs.Told.{told}
use Rattle.cc_whole_uses.proofs.items.in_pairs.Given as goal

abbrev pub invariant-loop-pair : goal.invariant-loop-pair
invariant-loop-pair l = told l.out.items ++ uses_of_pairs (drop l.pair-index l.pairs) ≡ told l.initial.out.items ++ uses_of_pairs l.pairs
