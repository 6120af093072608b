use Rattle.cc_whole_memory.proofs.cells.+zeros.Given as goal

abbrev pub decreases-zeros : goal.decreases-zeros
decreases-zeros l = l.count
