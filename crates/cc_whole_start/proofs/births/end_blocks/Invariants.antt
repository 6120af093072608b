use Rattle.std.proofs.Common.{◌≡◌, ◌-◌, ◌+◌}
use Rattle.cc_whole_memory.specs.Store.{memory_of}
use Rattle.cc_whole_mean.specs.Flow.{ended_from}
use Rattle.cc_whole_start.proofs.births.end_blocks.Given as goal

abbrev pub invariant-loop-index : goal.invariant-loop-index
invariant-loop-index l = ended_from (l.count - l.index) (l.first + l.index) (memory_of l.store) ≡ ended_from l.count l.first (memory_of l.initial.store)
