use Rattle.std.proofs.Common.{◌≡◌, drop}
use Rattle.cf_frame.specs.Bound.{costliest_after, is_of_file}
use Rattle.cf_frame.proofs.functions.initialiser_frame.Given as goal

abbrev pub invariant-loop-object : goal.invariant-loop-object
invariant-loop-object l =
    costliest_after is_of_file l.greatest (drop l.object-index l.object-items) ≡ costliest_after is_of_file 0 l.object-items
