use Rattle.std.proofs.Common.{drop}
use Rattle.cc_whole.specs.Plain.{items_of, functions_of}
use Rattle.cc_whole_callee.proofs.Places.{SamePlace}
use Rattle.cc_whole_callee.proofs.find.function_at.Given as goal

abbrev pub invariant-loop-item : goal.invariant-loop-item
invariant-loop-item l = SamePlace (functions_of (items_of (drop l.item-index l.item-items))) l.left (functions_of (items_of l.program.items)) l.index
