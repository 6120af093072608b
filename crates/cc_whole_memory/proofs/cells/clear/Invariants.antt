use Rattle.cc_whole_memory.proofs.CellLaws.{ClearedTo}
use Rattle.cc_whole_memory.proofs.cells.clear.Given as goal

abbrev pub invariant-loop-offset : goal.invariant-loop-offset
invariant-loop-offset l = ClearedTo l.at l.count l.offset l.initial.cells.items l.cells.items
