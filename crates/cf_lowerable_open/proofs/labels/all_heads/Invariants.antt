use Rattle.std.proofs.Common.{◌≡◌, ◌++◌, drop}
use Rattle.cf_lowerable_open.specs.Heads.{heads_of}
use Rattle.cf_lowerable_open.specs.Views.{statements_in}
use Rattle.cf_lowerable_open.proofs.labels.all_heads.Given as goal

abbrev pub invariant-loop-s : goal.invariant-loop-s
invariant-loop-s l = l.made.items ++ heads_of (statements_in l.x (drop l.s-index l.all)) ≡ heads_of (statements_in l.x l.all)
