use Rattle.std.proofs.Common.{◌≡◌}
use Rattle.cf_lowerable_open.specs.Lists.{changed_by, partly}
use Rattle.cf_lowerable_open.specs.Told.{all_told}
use Rattle.cf_lowerable_open.proofs.changes.change_all.Given as goal

abbrev pub invariant-loop-x : goal.invariant-loop-x
invariant-loop-x l = all_told l.x-items ≡ partly (changed_by l.change) l.x-index (all_told l.initial.x-items)
