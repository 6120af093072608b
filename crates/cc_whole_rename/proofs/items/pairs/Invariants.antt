use Rattle.std.proofs.Common.{◌≡◌, map, take}
use Rattle.cc_whole_link.specs.Placed.{static_renaming}
use Rattle.cc_whole_link.specs.Rename.{pair_renamed}
use Rattle.cc_whole_rename.proofs.items.pairs.Given as goal

abbrev pub invariant-loop-one : goal.invariant-loop-one
invariant-loop-one l = l.made ≡ map (λ p. pair_renamed p (static_renaming l.statics.unit l.statics.names)) (take l.one-index l.all)
