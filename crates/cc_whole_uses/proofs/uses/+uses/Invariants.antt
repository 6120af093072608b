use Rattle.std.proofs.Common.{◌≡◌, ◌++◌, map, drop}
use Rattle.cc_whole.specs.Plain.{statement_of, in_order, switch_item_of, switch_in_order}
use Rattle.cc_whole.specs.Uses.{uses_of_statements, uses_of_switch}
use Rattle.cc_whole_uses.specs.Told.{told}
use Rattle.cc_whole_uses.proofs.uses.+uses.Given as goal

abbrev pub invariant-in_statements-loop-statement : goal.invariant-in_statements-loop-statement
invariant-in_statements-loop-statement l = record {
  kept : l.hidden ≡ l.initial.hidden;
  left : told l.out.items ++ uses_of_statements (in_order (map statement_of (drop l.statement-index l.statement-items))) l.initial.hidden
      ≡ told l.initial.out.items ++ uses_of_statements (in_order (map statement_of l.statement-items)) l.initial.hidden;
}

abbrev pub invariant-in_switch-loop-item : goal.invariant-in_switch-loop-item
invariant-in_switch-loop-item l = record {
  kept : l.hidden ≡ l.initial.hidden;
  left : told l.out.items ++ uses_of_switch (switch_in_order (map switch_item_of (drop l.item-index l.item-items))) l.initial.hidden
      ≡ told l.initial.out.items ++ uses_of_switch (switch_in_order (map switch_item_of l.item-items)) l.initial.hidden;
}
