use Rattle.std.proofs.Common.{◌≡◌, ◌≤◌, drop}
use Rattle.cc_whole.specs.Plain.{items_of, variables_of}
use Rattle.cc_whole_mean.specs.Scope.{bind_variables}
use Rattle.cc_whole_start.specs.Table.{scope_of}
use Rattle.cc_whole_start.proofs.names.FileNames.add_variables.Given as goal

abbrev pub invariant-loop-item : goal.invariant-loop-item
invariant-loop-item l = record {
  few : l.block ≤ l.item-index;
  same : bind_variables (variables_of (items_of (drop l.item-index l.items))) l.block (scope_of l.self)
      ≡ bind_variables (variables_of (items_of l.items)) 0 (scope_of l.initial.self);
}
