use Rattle.std.proofs.Common.{◌≡◌, ◌++◌, [], vec_len}
use Rattle.std.specs.Prelude.{reverse}
use Rattle.cc_whole_link.specs.Link.{kept_items}
use Rattle.cc_whole_linker.specs.Earlier.{Chained}
use Rattle.cc_whole_linker.specs.Rules.{seen}
use Rattle.cc_whole_linker.proofs.kept.kept_items.Given as goal

abbrev pub invariant-loop-last : goal.invariant-loop-last
invariant-loop-last l = record {
  chained : Chained (seen l.left.items) l.places.items;
  kept : kept_items [] (seen l.left.items) ++ reverse l.kept.items ≡ kept_items [] (seen l.fn.placed.items);
}

abbrev pub decreases-loop-last : goal.decreases-loop-last
decreases-loop-last l = vec_len l.left
