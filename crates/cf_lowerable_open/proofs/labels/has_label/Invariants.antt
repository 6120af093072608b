use Rattle.std.proofs.Common.{◌≡◌, drop}
use Rattle.cf_lowerable_open.specs.Heads.{has_label}
use Rattle.cf_lowerable_open.specs.Views.{statements_in}
use Rattle.cf_lowerable_open.proofs.labels.has_label.Given as goal

abbrev pub invariant-loop-s : goal.invariant-loop-s
invariant-loop-s l = has_label l.label (statements_in l.x (drop l.s-index l.all)) ≡ has_label l.label (statements_in l.x l.all)
