use Rattle.std.proofs.Common.{◌≡◌, drop}
use Rattle.cc_whole.specs.Plain.{items_of}
use Rattle.cc_whole_program.specs.Uses.{good_items}
use Rattle.cc_whole_program.proofs.program.good_items.Given as goal

abbrev pub invariant-loop-item : goal.invariant-loop-item
invariant-loop-item l = good_items (items_of (drop l.item-index l.items)) l.defined ≡ good_items (items_of l.items) l.defined
