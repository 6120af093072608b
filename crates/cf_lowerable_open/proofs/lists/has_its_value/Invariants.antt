use Rattle.std.proofs.Common.{◌≡◌, drop}
use Rattle.std.specs.List.{list_any}
use Rattle.cf_lowerable_open.specs.Lists.{has_value_one}
use Rattle.cf_lowerable_open.specs.Told.{all_told}
use Rattle.cf_lowerable_open.proofs.lists.has_its_value.Given as goal

abbrev pub invariant-loop-x : goal.invariant-loop-x
invariant-loop-x l = list_any (λ x. has_value_one l.local x) (all_told (drop l.x-index l.all)) ≡ list_any (λ x. has_value_one l.local x) (all_told l.all)
