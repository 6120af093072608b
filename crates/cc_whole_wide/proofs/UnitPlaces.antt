-- A fault of a unit stands at a landmark of its text.
use Rattle.std.proofs.Common.{◌≡◌, ℕ, ◌<◌, true, List, [], ◌∷◌, subst}
use Rattle.std.proofs.lemmas.Bool.{and_parts}
use Rattle.cc_whole.specs.Plain.{Item}
use Rattle.cc_whole.specs.Landmarks.{item_marks}
use Rattle.cc_whole.specs.Fault.{broken}
use Rattle.cc_whole.specs.Known.{Named}
use Rattle.cc_whole.specs.Valid.{named_by, defined_after, checked_item, checked_items, first_fault}
use Rattle.cc_whole.specs.Spellable.{spellable_item, spellable_items}
use Rattle.cc_whole_laws.specs.Landmark.{items_marks}
use Rattle.cc_whole_wide.proofs.FaultPlaces.{Inside, next_inside}
use Rattle.cc_whole_wide.proofs.ItemPlaces.{item_inside, spelled_well}

items_inside : (items : List Item) (names : List Named) (defined : List (List ℕ)) → spellable_items items ≡ true → Inside (items_marks items) (checked_items items names defined)
items_inside [] names defined h = tt
items_inside (i ∷ rest) names defined h =
    let both = and_parts (spellable_item i) (spellable_items rest) h in
    next_inside (item_marks i) (items_marks rest) (checked_item i names defined) (checked_items rest (named_by i ∷ names) (defined_after i defined))
    (item_inside i names defined (spelled_well i both.0)) (items_inside rest (named_by i ∷ names) (defined_after i defined) both.1)

pub fault_inside : (items : List Item) (rule place : ℕ) → spellable_items items ≡ true → first_fault items ≡ broken rule place → place < items_marks items
fault_inside items rule place h e = subst (Inside (items_marks items)) e (items_inside items [] [] h)
