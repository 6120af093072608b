use Rattle.std.proofs.Common.{◌≡◌, map, take}
use Rattle.cf_elab_initial.specs.Lists.Seen.{trees_seen}
use Rattle.cf_elab_declaration.specs.WrittenTrees.Shut as shut
use Rattle.cf_elab_declaration.proofs.written_trees.outlines.+outlines.Given as goal

abbrev pub invariant-outlines_of-loop-i : goal.invariant-outlines_of-loop-i
invariant-outlines_of-loop-i l = trees_seen l.trees ≡ map shut.outline_of (take l.i-index l.all)
