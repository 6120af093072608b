use Rattle.std.proofs.Common.{◌≡◌, length}
use Rattle.std.specs.List.{list_any}
use Rattle.cc_whole_link.specs.Link.{second}
use Rattle.cc_whole_link.specs.Placed.{its_name}
use Rattle.cc_whole_placed.specs.Seen.{placed_of}
use Rattle.cc_whole_linker.specs.Rules.{seen}
use Rattle.cc_whole_linker.proofs.twice.any_second.Given as goal

abbrev pub invariant-loop-other : goal.invariant-loop-other
invariant-loop-other l = record {
  same : l.left.name ≡ its_name (placed_of l.placed);
  rest : list_any (second (placed_of l.placed)) l.left.items ≡ list_any (second (placed_of l.placed)) (seen l.fn.before);
}

abbrev pub decreases-loop-other : goal.decreases-loop-other
decreases-loop-other l = length l.left.items
