use Rattle.std.proofs.Common.{◌≡◌, drop}
use Rattle.cf_lower_kept.specs.Opened.{stands_before}
use Rattle.cf_lowerable_open.specs.Views.{statements_in}
use Rattle.cf_lowerable_open.proofs.labels.stands_before.Given as goal

abbrev pub invariant-loop-s : goal.invariant-loop-s
invariant-loop-s l = stands_before (statements_in l.x (drop l.s-index l.before)) (statements_in l.x l.next) ≡ stands_before (statements_in l.x l.before) (statements_in l.x l.next)
