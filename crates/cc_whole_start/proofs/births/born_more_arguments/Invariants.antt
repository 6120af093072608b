use Rattle.std.proofs.Common.{◌≡◌, drop}
use Rattle.cc_whole_memory.specs.Store.{memory_of}
use Rattle.cc_whole_mean.specs.Flow.{born_arguments}
use Rattle.cc_whole_start.proofs.births.born_more_arguments.Given as goal

abbrev pub invariant-loop-value : goal.invariant-loop-value
invariant-loop-value l = born_arguments (drop l.value-index l.values) (memory_of l.store) ≡ born_arguments l.values (memory_of l.initial.store)
