use Rattle.std.proofs.Common.{◌≡◌, map, drop}
use Rattle.cc_whole.specs.Plain.{statement_of, in_order, switch_item_of, switch_in_order}
use Rattle.cc_whole_limits.specs.Nodes.{statements_nodes, switch_nodes}
use Rattle.cc_whole_limits.specs.Sums.{capped_plus}
use Rattle.cc_whole_limits.proofs.nodes.+statements.Given as goal

abbrev pub invariant-statements-loop-item : goal.invariant-statements-loop-item
invariant-statements-loop-item l =
    statements_nodes capped_plus l.count (in_order (map statement_of (drop l.item-index l.item-items)))
    ≡ statements_nodes capped_plus 0 (in_order (map statement_of l.item-items))

abbrev pub invariant-switch-loop-item : goal.invariant-switch-loop-item
invariant-switch-loop-item l =
    switch_nodes capped_plus l.count (switch_in_order (map switch_item_of (drop l.item-index l.item-items)))
    ≡ switch_nodes capped_plus 0 (switch_in_order (map switch_item_of l.item-items))
