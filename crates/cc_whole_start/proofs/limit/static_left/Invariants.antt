use Rattle.std.proofs.Common.{◌≡◌, drop}
use Rattle.cc_whole.specs.Plain.{items_of, variables_of}
use Rattle.cc_whole_link.specs.Static.{static_bytes, most_static}
use Rattle.cc_whole_start.specs.Walk.{left_behind}
use Rattle.cc_whole_start.proofs.limit.static_left.Given as goal

abbrev pub invariant-loop-item : goal.invariant-loop-item
invariant-loop-item l =
    left_behind l.left (static_bytes (variables_of (items_of (drop l.item-index l.items)))) ≡ left_behind most_static (static_bytes (variables_of (items_of l.items)))
