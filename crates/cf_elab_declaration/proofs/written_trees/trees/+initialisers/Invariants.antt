use Rattle.std.proofs.Common.{◌≡◌, drop}
use Rattle.cf_elab_env.specs.Holds.{Grows}
use Rattle.cf_elab_initial.specs.Lists.Known.{TreesKnown}
use Rattle.cf_elab_initial.specs.Lists.Seen.{trees_seen}
use Rattle.cf_elab_declaration.specs.WrittenTrees.Shut as shut
use Rattle.cf_elab_env.proofs.InOrder.{behind}
use Rattle.cf_elab_declaration.proofs.written_trees.trees.+initialisers.Given as goal

abbrev pub invariant-trees_of-loop-i : goal.invariant-trees_of-loop-i
invariant-trees_of-loop-i l = record {
  made : shut.trees_of l.all l.fn.env ≡ behind (trees_seen l.trees) (shut.trees_of (drop l.i-index l.all) l.env);
  known : TreesKnown l.env.types (trees_seen l.trees);
  grows : Grows l.fn.env.types l.env.types;
}
