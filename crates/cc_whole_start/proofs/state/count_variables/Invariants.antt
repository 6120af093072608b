use Rattle.std.proofs.Common.{◌≡◌, ◌≤◌, ◌+◌, drop, length}
use Rattle.cc_whole.specs.Plain.{items_of, variables_of}
use Rattle.cc_whole_start.proofs.state.count_variables.Given as goal

abbrev pub invariant-loop-item : goal.invariant-loop-item
invariant-loop-item l = record {
  few : l.count ≤ l.item-index;
  same : l.count + length (variables_of (items_of (drop l.item-index l.items))) ≡ length (variables_of (items_of l.items));
}
