use Rattle.std.proofs.Common.{◌≡◌, ◌++◌, drop}
use Rattle.std.specs.Prelude.{filter, map}
use Rattle.cf_lower_kept.specs.Opened.{one_way, is_left_out}
use Rattle.cf_lowerable_open.specs.Told.{all_told}
use Rattle.cf_lowerable_open.proofs.ends.add_left_out.Given as goal

abbrev pub invariant-loop-y : goal.invariant-loop-y
invariant-loop-y l =
    all_told l.made.items ++ map one_way (filter (is_left_out (all_told l.left)) (all_told (drop l.y-index l.right)))
    ≡ all_told l.initial.made.items ++ map one_way (filter (is_left_out (all_told l.left)) (all_told l.right))
