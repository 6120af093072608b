use Rattle.std.proofs.Common.{◌≡◌, drop}
use Rattle.std.specs.List.{list_any}
use Rattle.cf_lowerable_open.specs.Lists.{may_begin_one}
use Rattle.cf_lowerable_open.specs.Told.{all_told}
use Rattle.cf_lowerable_open.proofs.lists.may_begin.Given as goal

abbrev pub invariant-loop-x : goal.invariant-loop-x
invariant-loop-x l = list_any (λ x. may_begin_one l.local l.register x) (all_told (drop l.x-index l.all)) ≡ list_any (λ x. may_begin_one l.local l.register x) (all_told l.all)
