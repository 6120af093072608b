use Rattle.std.proofs.Common.{◌≡◌, drop}
use Rattle.std.specs.List.{list_any}
use Rattle.cf_lower_kept.specs.Opened.{is_local}
use Rattle.cf_lowerable_open.specs.Told.{all_told}
use Rattle.cf_lowerable_open.proofs.lists.is_listed.Given as goal

abbrev pub invariant-loop-x : goal.invariant-loop-x
invariant-loop-x l = list_any (λ x. is_local l.local x) (all_told (drop l.x-index l.all)) ≡ list_any (λ x. is_local l.local x) (all_told l.all)
