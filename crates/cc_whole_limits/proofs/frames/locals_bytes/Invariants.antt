use Rattle.std.proofs.Common.{◌≡◌, drop}
use Rattle.cc_whole_limits.specs.Frames.{locals_bytes}
use Rattle.cc_whole_limits.specs.Sums.{capped_plus}
use Rattle.cc_whole_limits.proofs.frames.locals_bytes.Given as goal

abbrev pub invariant-loop-item : goal.invariant-loop-item
invariant-loop-item l = locals_bytes capped_plus l.bytes (drop l.item-index l.all) ≡ locals_bytes capped_plus 0 l.all
