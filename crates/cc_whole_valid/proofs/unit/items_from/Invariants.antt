use Rattle.std.proofs.Common.{◌≡◌, [], drop}
use Rattle.cc_whole.specs.Plain.{items_of}
use Rattle.cc_whole_valid.specs.CheckingItems as spec
use Rattle.cc_whole_valid.proofs.unit.items_from.Given as goal

abbrev pub invariant-loop-item : goal.invariant-loop-item
invariant-loop-item l = spec.items_from (items_of (drop l.item-index l.items)) l.names l.defined l.at ≡ spec.items_from (items_of l.items) [] [] l.initial.at
