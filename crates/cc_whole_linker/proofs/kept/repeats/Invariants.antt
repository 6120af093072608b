use Rattle.std.proofs.Common.{◌≡◌, ◌&&◌, length}
use Rattle.std.specs.List.{list_any}
use Rattle.cc_whole_link.specs.Placed.{Placed, defines_named, its_name, is_shared}
use Rattle.cc_whole_placed.specs.Seen.{placed_of}
use Rattle.cc_whole_linker.specs.Rules.{seen}
use Rattle.cc_whole_linker.proofs.kept.repeats.Given as goal

abbrev pub invariant-loop-other : goal.invariant-loop-other
invariant-loop-other l = record {
  same : l.left.name ≡ its_name (placed_of l.placed);
  rest :
      list_any (λ (b : Placed). defines_named (its_name (placed_of l.placed)) b && (is_shared (placed_of l.placed) && is_shared b)) l.left.items
      ≡ list_any (λ (b : Placed). defines_named (its_name (placed_of l.placed)) b && (is_shared (placed_of l.placed) && is_shared b)) (seen l.fn.before);
}

abbrev pub decreases-loop-other : goal.decreases-loop-other
decreases-loop-other l = length l.left.items
