use Rattle.std.proofs.Common.{◌≡◌, ◌≤◌, ℕ, List, length, drop, map}
use Rattle.std.specs.Borrow.{Bor}
use Rattle.cc_whole.specs.Known.{lookup}
use Rattle.cc_whole.specs.Plain.{items_of}
use Rattle.cc_whole.specs.Valid.{named_by}
use Rattle.cf_lowerable_links.specs.Meant.{found}
use Rattle.cf_lowerable_links.proofs.meanings.table_of.Given as goal

-- the items behind are in the table
abbrev pub invariant-loop-left : goal.invariant-loop-left
invariant-loop-left l = record {
  within : l.left ≤ length l.items;
  same : (q : Bor (List ℕ)) → found l.table q ≡ lookup (map named_by (items_of (drop l.left l.items))) q.now;
}

abbrev pub decreases-loop-left : goal.decreases-loop-left
decreases-loop-left l = l.left
