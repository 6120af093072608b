use Rattle.std.proofs.Common.{◌≡◌, drop}
use Rattle.cf_frame.specs.Bound.{costliest_after, is_local_of}
use Rattle.cf_frame.proofs.functions.local_starts.Given as goal

abbrev pub invariant-loop-object : goal.invariant-loop-object
invariant-loop-object l =
    costliest_after (is_local_of l.function) l.greatest (drop l.object-index l.object-items) ≡ costliest_after (is_local_of l.function) 0 l.object-items
