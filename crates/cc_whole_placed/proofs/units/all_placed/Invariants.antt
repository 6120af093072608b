use Rattle.std.proofs.Common.{◌≡◌, ◌+◌, ◌++◌, map, drop}
use Rattle.cc_whole_link.specs.Placed.{placed_units}
use Rattle.cc_whole_placed.specs.Seen.{placed_of}
use Rattle.cc_whole_placed.proofs.units.all_placed.Given as goal

abbrev pub invariant-loop-index : goal.invariant-loop-index
invariant-loop-index l = map placed_of l.all.items ++ placed_units (l.index + 1) (drop l.index l.units) ≡ placed_units 1 l.units
