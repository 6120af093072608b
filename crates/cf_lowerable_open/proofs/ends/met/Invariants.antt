use Rattle.std.proofs.Common.{◌≡◌, drop}
use Rattle.std.specs.Prelude.{find}
use Rattle.cf_lower_kept.specs.Opened.{is_local, one_or_both, met_one}
use Rattle.cf_lowerable_open.specs.Told.{all_told, told}
use Rattle.cf_lowerable_open.proofs.ends.met.Given as goal

abbrev pub invariant-loop-y : goal.invariant-loop-y
invariant-loop-y l = one_or_both (told l.x) (find (is_local l.x.local) (all_told (drop l.y-index l.others))) ≡ met_one (all_told l.others) (told l.x)
