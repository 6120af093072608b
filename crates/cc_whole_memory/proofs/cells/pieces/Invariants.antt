use Rattle.cc_whole_memory.proofs.CellLaws.{FoundTo}
use Rattle.cc_whole_memory.proofs.cells.pieces.Given as goal

abbrev pub invariant-loop-index : goal.invariant-loop-index
invariant-loop-index l = FoundTo l.cells l.at l.count l.index l.found
