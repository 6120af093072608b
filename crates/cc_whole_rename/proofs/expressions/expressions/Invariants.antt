use Rattle.std.proofs.Common.{◌≡◌, map, take}
use Rattle.cc_whole_link.specs.Rename.{expression_renamed}
use Rattle.cc_whole_rename.specs.Renamed.{renaming}
use Rattle.cc_whole_rename.proofs.expressions.expressions.Given as goal

abbrev pub invariant-loop-e : goal.invariant-loop-e
invariant-loop-e l = l.made ≡ map (λ e. expression_renamed e (renaming l.statics.unit l.statics.names l.hidden)) (take l.e-index l.all)
