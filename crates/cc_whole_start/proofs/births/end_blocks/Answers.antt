use Rattle.std.proofs.Common.{◌∙◌, ◌+◌, ◌-◌, sym, ap}
use Rattle.cc_whole_memory.specs.Store.{memory_of}
use Rattle.cc_whole_mean.specs.Flow.{ended_from}
use Rattle.cc_whole_start.proofs.BirthLaws.{ended_from-step}
use Rattle.cc_whole_start.proofs.births.end_blocks.Goals as goal

pub loop-index-preserved : goal.loop-index-preserved
loop-index-preserved c =
    ap (λ m. ended_from (c.args.count - (c.loop-index.index + 1)) (c.args.first + (c.loop-index.index + 1)) m) c.end_block.ensures
    ∙ sym (ended_from-step c.args.count c.loop-index.index c.args.first (memory_of c.loop-index.store) c.loop-index-test.true) ∙ c.loop-index.invariant
