use Rattle.std.proofs.Common.{◌≡◌, ◌*◌, drop}
use Rattle.cc_whole_memory.specs.Store.{memory_of}
use Rattle.cc_whole_mean.specs.Start.{put_pairs}
use Rattle.cc_whole_start.specs.Table.{scope_of}
use Rattle.cc_whole_start.proofs.statics.put_pairs.Given as goal

abbrev pub invariant-loop-index : goal.invariant-loop-index
invariant-loop-index l =
    put_pairs (scope_of l.names) (drop l.index l.pairs) l.block (8 * l.index) (memory_of l.store)
    ≡ put_pairs (scope_of l.names) l.pairs l.block 0 (memory_of l.initial.store)
