use Rattle.std.proofs.Common.{◌≡◌}
use Rattle.cf_lower_kept.specs.Opened.{further_counts, number_in, overwritten}
use Rattle.cf_lowerable_open.specs.Lists.{partly}
use Rattle.cf_lowerable_open.specs.Told.{all_told}
use Rattle.cf_lowerable_open.proofs.changes.place_further.Given as goal

abbrev pub invariant-loop-x : goal.invariant-loop-x
invariant-loop-x l = all_told l.x-items ≡ partly (λ x. overwritten l.register (further_counts (number_in x.last l.by) (x.places l.from)) x) l.x-index (all_told l.initial.x-items)
