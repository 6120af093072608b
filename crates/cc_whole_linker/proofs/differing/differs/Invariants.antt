use Rattle.std.proofs.Common.{◌≡◌, ◌↔◌, length}
use Rattle.cc_whole_link.specs.Link.{Differs}
use Rattle.cc_whole_link.specs.Placed.{its_name}
use Rattle.cc_whole_placed.specs.Seen.{placed_of}
use Rattle.cc_whole_linker.specs.Rules.{seen}
use Rattle.cc_whole_linker.proofs.differing.differs.Given as goal

abbrev pub invariant-loop-other : goal.invariant-loop-other
invariant-loop-other l = record {
  same : l.left.name ≡ its_name (placed_of l.placed);
  rest : Differs (seen l.fn.before) (placed_of l.placed) ↔ Differs l.left.items (placed_of l.placed);
}

abbrev pub decreases-loop-other : goal.decreases-loop-other
decreases-loop-other l = length l.left.items
