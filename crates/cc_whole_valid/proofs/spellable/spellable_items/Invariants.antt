use Rattle.std.proofs.Common.{◌≡◌, drop}
use Rattle.cc_whole.specs.Plain.{items_of}
use Rattle.cc_whole.specs.Spellable.{spellable_items}
use Rattle.cc_whole_valid.proofs.spellable.spellable_items.Given as goal

abbrev pub invariant-loop-item : goal.invariant-loop-item
invariant-loop-item l = spellable_items (items_of (drop l.item-index l.items)) ≡ spellable_items (items_of l.items)
