use Rattle.std.proofs.Common.{◌≡◌, ◌+◌, ◌≤◌, drop}
use Rattle.cc_whole.specs.Plain.{items_of, functions_of}
use Rattle.cc_whole_mean.specs.Scope.{bind_functions, function_names}
use Rattle.cc_whole_start.specs.Table.{scope_of}
use Rattle.cc_whole_start.specs.Walk.{numbers_behind}
use Rattle.cc_whole_start.proofs.names.FileNames.add_functions.Given as goal

abbrev pub invariant-loop-item : goal.invariant-loop-item
invariant-loop-item l = record {
  few : l.number ≤ l.item-index + 1;
  same : bind_functions (function_names (functions_of (items_of (drop l.item-index l.items)))) l.number (scope_of l.self)
      ≡ bind_functions (function_names (functions_of (items_of l.items))) 1 (scope_of l.initial.self);
  behind : numbers_behind (items_of (drop l.item-index l.items)) l.number ≡ numbers_behind (items_of l.items) 1;
}
