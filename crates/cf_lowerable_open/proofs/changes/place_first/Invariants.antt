use Rattle.std.proofs.Common.{◌≡◌}
use Rattle.cf_lower_kept.specs.Opened.{first_counts, overwritten}
use Rattle.cf_lowerable_open.specs.Lists.{partly}
use Rattle.cf_lowerable_open.specs.Told.{all_told}
use Rattle.cf_lowerable_open.proofs.changes.place_first.Given as goal

abbrev pub invariant-loop-x : goal.invariant-loop-x
invariant-loop-x l = all_told l.x-items ≡ partly (λ x. overwritten l.register (first_counts (x.places l.from)) x) l.x-index (all_told l.initial.x-items)
