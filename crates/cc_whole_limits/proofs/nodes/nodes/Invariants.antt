use Rattle.std.proofs.Common.{◌≡◌, drop}
use Rattle.cc_whole.specs.Plain.{items_of}
use Rattle.cc_whole_limits.specs.Nodes.{items_nodes}
use Rattle.cc_whole_limits.specs.Sums.{capped_plus}
use Rattle.cc_whole_limits.proofs.nodes.nodes.Given as goal

abbrev pub invariant-loop-item : goal.invariant-loop-item
invariant-loop-item l = items_nodes capped_plus l.count (items_of (drop l.item-index l.items)) ≡ items_nodes capped_plus 0 (items_of l.items)
