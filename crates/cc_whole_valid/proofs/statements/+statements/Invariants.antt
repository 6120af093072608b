use Rattle.std.proofs.Common.{◌≡◌, map, drop}
use Rattle.cc_whole.specs.Plain.{statement_of, in_order, switch_item_of, switch_in_order}
use Rattle.cc_whole.specs.Statements.{no_labels}
use Rattle.cc_whole_valid.specs.Checking as spec
use Rattle.cc_whole_valid.specs.Memory.{known}
use Rattle.cc_whole_valid.proofs.statements.+statements.Given as goal

abbrev pub invariant-statements_from-loop-statement : goal.invariant-statements_from-loop-statement
invariant-statements_from-loop-statement l = record {
  kept : l.names ≡ l.initial.names;
  left : spec.statements_from (in_order (map statement_of (drop l.statement-index l.statement-items))) (known l.initial.names l.around) l.at
      ≡ spec.statements_from (in_order (map statement_of l.statement-items)) (known l.initial.names l.around) l.initial.at;
}

-- those behind are checked from here on, with the labels so far
abbrev pub invariant-switch_from-loop-item : goal.invariant-switch_from-loop-item
invariant-switch_from-loop-item l = record {
  kept : l.names ≡ l.initial.names;
  left : spec.switch_from (switch_in_order (map switch_item_of (drop l.item-index l.item-items))) l.labels (known l.initial.names l.around) l.at
      ≡ spec.switch_from (switch_in_order (map switch_item_of l.item-items)) no_labels (known l.initial.names l.around) l.initial.at;
}
