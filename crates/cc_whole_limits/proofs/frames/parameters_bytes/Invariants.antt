use Rattle.std.proofs.Common.{◌≡◌, drop}
use Rattle.cc_whole_limits.specs.Frames.{parameters_bytes}
use Rattle.cc_whole_limits.specs.Sums.{capped_plus}
use Rattle.cc_whole_limits.proofs.frames.parameters_bytes.Given as goal

abbrev pub invariant-loop-item : goal.invariant-loop-item
invariant-loop-item l = parameters_bytes capped_plus l.bytes (drop l.item-index l.all) ≡ parameters_bytes capped_plus 0 l.all
