use Rattle.std.proofs.Common.{◌≡◌, ◌++◌, drop}
use Rattle.cf_lowerable_open.specs.Told.{all_told}
use Rattle.cf_lowerable_open.proofs.lists.copied.Given as goal

abbrev pub invariant-loop-x : goal.invariant-loop-x
invariant-loop-x l = all_told l.made.items ++ all_told (drop l.x-index l.all) ≡ all_told l.all
