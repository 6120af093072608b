use Rattle.std.proofs.Common.{◌≡◌, if◌then◌else◌}
use Rattle.cf_lower_kept.specs.Opened.{is_local}
use Rattle.cf_lowerable_open.specs.Lists.{begun_with, partly}
use Rattle.cf_lowerable_open.specs.Told.{all_told}
use Rattle.cf_lowerable_open.proofs.changes.begin_all.Given as goal

abbrev pub invariant-loop-x : goal.invariant-loop-x
invariant-loop-x l = all_told l.x-items ≡ partly (λ x. if is_local l.local x then begun_with l.register l.counts x else x) l.x-index (all_told l.initial.x-items)
