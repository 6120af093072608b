use Rattle.std.proofs.Common.{◌≡◌, ◌++◌, map, drop}
use Rattle.cc_whole.specs.Plain.{items_of}
use Rattle.cc_whole_link.specs.Placed.{statics, longer}
use Rattle.cc_whole_placed.proofs.statics.longer_names.Given as goal

abbrev pub invariant-loop-item : goal.invariant-loop-item
invariant-loop-item l =
    l.made ++ map (longer l.unit) (statics (items_of (drop l.item-index l.items))) ≡ map (longer l.unit) (statics (items_of l.items))
