use Rattle.std.proofs.Common.{◌≡◌, map, drop}
use Rattle.cc_whole.specs.Plain.{statement_of, in_order, switch_item_of, switch_in_order}
use Rattle.cc_whole_limits.specs.Frames.{statements_room, switch_room}
use Rattle.cc_whole_limits.specs.Sums.{capped_plus}
use Rattle.cc_whole_limits.proofs.frames.+rooms.Given as goal

abbrev pub invariant-statements_room-loop-item : goal.invariant-statements_room-loop-item
invariant-statements_room-loop-item l =
    statements_room capped_plus l.most (in_order (map statement_of (drop l.item-index l.item-items)))
    ≡ statements_room capped_plus 0 (in_order (map statement_of l.item-items))

abbrev pub invariant-switch_room-loop-item : goal.invariant-switch_room-loop-item
invariant-switch_room-loop-item l =
    switch_room capped_plus l.most (switch_in_order (map switch_item_of (drop l.item-index l.item-items)))
    ≡ switch_room capped_plus 0 (switch_in_order (map switch_item_of l.item-items))
