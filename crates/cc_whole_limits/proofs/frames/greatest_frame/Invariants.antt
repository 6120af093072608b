use Rattle.std.proofs.Common.{◌≡◌, drop}
use Rattle.cc_whole.specs.Plain.{items_of}
use Rattle.cc_whole_limits.specs.Frames.{items_frame}
use Rattle.cc_whole_limits.specs.Sums.{capped_plus}
use Rattle.cc_whole_limits.proofs.frames.greatest_frame.Given as goal

abbrev pub invariant-loop-item : goal.invariant-loop-item
invariant-loop-item l = items_frame capped_plus l.most (items_of (drop l.item-index l.items)) ≡ items_frame capped_plus 0 (items_of l.items)
