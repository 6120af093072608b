use Rattle.std.proofs.Common.{◌≡◌, drop}
use Rattle.cc_whole.specs.Plain.{items_of, variables_of}
use Rattle.cc_whole_memory.specs.Store.{memory_of}
use Rattle.cc_whole_mean.specs.Start.{laid_out}
use Rattle.cc_whole_start.specs.Table.{scope_of}
use Rattle.cc_whole_start.proofs.statics.lay_out.Given as goal

abbrev pub invariant-loop-item : goal.invariant-loop-item
invariant-loop-item l =
    laid_out (scope_of l.names) (variables_of (items_of (drop l.item-index l.items))) (memory_of l.store)
    ≡ laid_out (scope_of l.names) (variables_of (items_of l.items)) (memory_of l.initial.store)
