use Rattle.std.proofs.Common.{◌≡◌, drop}
use Rattle.cc_whole_memory.specs.Store.{memory_of}
use Rattle.cc_whole_mean.specs.Start.{put_text}
use Rattle.cc_whole_start.proofs.statics.put_text.Given as goal

abbrev pub invariant-loop-offset : goal.invariant-loop-offset
invariant-loop-offset l = put_text (drop l.offset l.bytes) l.block l.offset (memory_of l.store) ≡ put_text l.bytes l.block 0 (memory_of l.initial.store)
