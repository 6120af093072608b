use Rattle.std.proofs.Common.{◌≡◌, map, drop}
use Rattle.cc_whole.specs.Plain.{statement_of, in_order, switch_item_of, switch_in_order}
use Rattle.cc_whole_program.specs.Uses as spec
use Rattle.cc_whole_program.proofs.statements.+statements.Given as goal

abbrev pub invariant-good_statements-loop-statement : goal.invariant-good_statements-loop-statement
invariant-good_statements-loop-statement l = record {
  kept : l.hidden ≡ l.initial.hidden;
  left : spec.good_statements (in_order (map statement_of (drop l.statement-index l.statement-items))) l.defined l.initial.hidden
      ≡ spec.good_statements (in_order (map statement_of l.statement-items)) l.defined l.initial.hidden;
}

abbrev pub invariant-good_switch-loop-item : goal.invariant-good_switch-loop-item
invariant-good_switch-loop-item l = record {
  kept : l.hidden ≡ l.initial.hidden;
  left : spec.good_switch (switch_in_order (map switch_item_of (drop l.item-index l.item-items))) l.defined l.initial.hidden
      ≡ spec.good_switch (switch_in_order (map switch_item_of l.item-items)) l.defined l.initial.hidden;
}
