use Rattle.std.proofs.Common.{◌≡◌, map, drop}
use Rattle.cc_whole.specs.Plain.{statement_of, in_order, switch_item_of, switch_in_order}
use Rattle.cc_whole.specs.Spellable as spec
use Rattle.cc_whole_valid.proofs.spellable.+spellable.Given as goal

abbrev pub invariant-spellable_statements-loop-statement : goal.invariant-spellable_statements-loop-statement
invariant-spellable_statements-loop-statement l =
    spec.spellable_statements (in_order (map statement_of (drop l.statement-index l.statement-items)))
    ≡ spec.spellable_statements (in_order (map statement_of l.statement-items))

abbrev pub invariant-spellable_switch-loop-item : goal.invariant-spellable_switch-loop-item
invariant-spellable_switch-loop-item l =
    spec.spellable_switch (switch_in_order (map switch_item_of (drop l.item-index l.item-items)))
    ≡ spec.spellable_switch (switch_in_order (map switch_item_of l.item-items))
