use Rattle.cc_whole_memory.proofs.CellLaws.{PlacedTo}
use Rattle.cc_whole_memory.proofs.cells.place.Given as goal

abbrev pub invariant-loop-index : goal.invariant-loop-index
invariant-loop-index l = PlacedTo l.at l.count l.pieces l.index l.fn.cells.items l.cells.items
