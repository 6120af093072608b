use Rattle.std.proofs.Common.{◌≡◌, ◌+◌, ◌≤◌, drop}
use Rattle.cc_whole.specs.Plain.{items_of, variables_of}
use Rattle.cc_whole_link.specs.Static.{static_bytes}
use Rattle.cc_whole_linker.proofs.bytes.passes_static.Given as goal

abbrev pub invariant-loop-item : goal.invariant-loop-item
invariant-loop-item l = record {
  within : l.total ≤ 4194304;
  all : static_bytes (variables_of (items_of l.items)) ≡ l.total + static_bytes (variables_of (items_of (drop l.item-index l.items)));
}
