use Rattle.std.proofs.Common.{◌≡◌, ◌++◌, drop}
use Rattle.std.specs.Prelude.{map}
use Rattle.cf_lower_kept.specs.Opened.{met_one}
use Rattle.cf_lowerable_open.specs.Told.{all_told}
use Rattle.cf_lowerable_open.proofs.ends.all_met.Given as goal

abbrev pub invariant-loop-x : goal.invariant-loop-x
invariant-loop-x l = all_told l.made.items ++ map (met_one (all_told l.right)) (all_told (drop l.x-index l.left)) ≡ map (met_one (all_told l.right)) (all_told l.left)
