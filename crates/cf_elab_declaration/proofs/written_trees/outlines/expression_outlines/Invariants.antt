use Rattle.std.proofs.Common.{◌≡◌, map, take}
use Rattle.cf_elab_initial.specs.Lists.Seen.{trees_seen}
use Rattle.cf_elab_declaration.specs.WrittenTrees.Shut as shut
use Rattle.cf_elab_declaration.proofs.written_trees.outlines.expression_outlines.Given as goal

abbrev pub invariant-loop-e : goal.invariant-loop-e
invariant-loop-e l = trees_seen l.trees ≡ map (shut.expression_outline l.at) (take l.e-index l.all)
