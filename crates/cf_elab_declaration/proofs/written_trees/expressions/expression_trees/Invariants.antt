use Rattle.std.proofs.Common.{◌≡◌, drop}
use Rattle.cf_elab_env.specs.Holds.{Grows}
use Rattle.cf_elab_initial.specs.Lists.Known.{TreesKnown}
use Rattle.cf_elab_initial.specs.Lists.Seen.{trees_seen}
use Rattle.cf_elab_declaration.specs.WrittenTrees.Shut as shut
use Rattle.cf_elab_env.proofs.InOrder.{behind}
use Rattle.cf_elab_declaration.proofs.written_trees.expressions.expression_trees.Given as goal

abbrev pub invariant-loop-e : goal.invariant-loop-e
invariant-loop-e l = record {
  made : shut.expression_trees l.at l.all l.initial.env ≡ behind (trees_seen l.trees) (shut.expression_trees l.at (drop l.e-index l.all) l.env);
  known : TreesKnown l.env.types (trees_seen l.trees);
  grows : Grows l.initial.env.types l.env.types;
}
