use Rattle.std.proofs.Common.{◌≡◌, [], drop}
use Rattle.cc_whole.specs.Plain.{items_of}
use Rattle.cc_whole_program.specs.Uses.{all_defined}
use Rattle.cc_whole_program.proofs.defined.all_defined.Given as goal

abbrev pub invariant-loop-item : goal.invariant-loop-item
invariant-loop-item l = all_defined (items_of (drop l.item-index l.items)) l.defined ≡ all_defined (items_of l.items) []
