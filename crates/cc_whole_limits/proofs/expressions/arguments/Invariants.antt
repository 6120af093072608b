use Rattle.std.proofs.Common.{◌≡◌, map, drop}
use Rattle.cc_whole.specs.Plain.{expression_of}
use Rattle.cc_whole_limits.specs.Nodes.{all_nodes}
use Rattle.cc_whole_limits.specs.Sums.{capped_plus}
use Rattle.cc_whole_limits.proofs.expressions.arguments.Given as goal

abbrev pub invariant-loop-item : goal.invariant-loop-item
invariant-loop-item l = all_nodes capped_plus l.count (map expression_of (drop l.item-index l.all)) ≡ all_nodes capped_plus 0 (map expression_of l.all)
