use Rattle.std.proofs.Common.{◌≡◌, drop}
use Rattle.cc_whole_memory.specs.Store.{memory_of}
use Rattle.cc_whole_mean.specs.Flow.{born_locals}
use Rattle.cc_whole_start.proofs.births.born_more_locals.Given as goal

abbrev pub invariant-loop-local : goal.invariant-loop-local
invariant-loop-local l = born_locals (drop l.local-index l.locals) (memory_of l.store) ≡ born_locals l.locals (memory_of l.initial.store)
