use Rattle.std.proofs.Common.{◌≡◌, ℕ, List, ◌||◌, drop}
use Rattle.std.specs.List.{flat_map}
use Rattle.cc_whole.specs.Known.{is_in}
use Rattle.cc_whole.specs.Plain.{items_of}
use Rattle.cf_lowerable_names.specs.Given.{given_by}
use Rattle.cf_lowerable_names.proofs.known.add_items.Given as goal

abbrev pub invariant-loop-item : goal.invariant-loop-item
invariant-loop-item l =
    (q : List ℕ)
    → (is_in (flat_map given_by (items_of (drop l.item-index l.item-items))) q || is_in l.names q) ≡ (is_in (flat_map given_by (items_of l.item-items)) q || is_in l.initial.names q)
