use Rattle.std.proofs.Common.{◌≡◌, not, drop}
use Rattle.std.specs.List.{list_all}
use Rattle.cc_whole.specs.Plain.{items_of}
use Rattle.cc_whole.specs.ValidUnit.{is_static}
use Rattle.cc_whole_program.proofs.program.none_static.Given as goal

abbrev pub invariant-loop-item : goal.invariant-loop-item
invariant-loop-item l =
    list_all (λ i. not (is_static i)) (items_of (drop l.item-index l.items)) ≡ list_all (λ i. not (is_static i)) (items_of l.items)
