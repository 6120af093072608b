use Rattle.std.proofs.Common.{◌≡◌, ◌++◌, map, drop}
use Rattle.cc_whole_link.specs.Placed.{placed}
use Rattle.cc_whole_placed.specs.Seen.{placed_of}
use Rattle.cc_whole_placed.proofs.units.add_items.Given as goal

abbrev pub invariant-loop-item : goal.invariant-loop-item
invariant-loop-item l =
    map placed_of l.all.items ++ map (placed l.names.unit l.names.names) (drop l.item-index l.items) ≡ map placed_of l.initial.all.items ++ map (placed l.names.unit l.names.names) l.items
