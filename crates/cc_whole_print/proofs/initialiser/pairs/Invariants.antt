use Rattle.std.proofs.Common.{◌≡◌, ◌++◌, map, take}
use Rattle.cc_whole_print.specs.Lines.{with_commas}
use Rattle.cc_whole_print.specs.Initialisers.{pair_text}
use Rattle.cc_whole_print.proofs.initialiser.pairs.Given as goal

abbrev pub invariant-loop-at : goal.invariant-loop-at
invariant-loop-at l = l.out.items ≡ l.initial.out.items ++ with_commas (map pair_text (take l.at l.one-items))
