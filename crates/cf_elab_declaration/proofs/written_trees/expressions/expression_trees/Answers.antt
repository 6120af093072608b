use Rattle.std.proofs.Common.{rules, ◌≤◌, ◌∙◌, ap, sym, subst, List, drop, ◌+◌, length}
use Rattle.std.proofs.lemmas.Result.{err_from_is_err_and}
use Rattle.cf_elab_env.proofs.Growth.{grows_through, grows-refl}
use Rattle.cf_elab_expr.proofs.BuiltForms.{one_built}
use Rattle.cf_elab_initial.specs.Lists.Known.{TreesKnown}
use Rattle.cf_elab_initial.specs.Lists.Seen.{trees_seen}
use Rattle.cf_elab_initial.specs.declared.lists.tree.Tree.{Tree}
use Rattle.cf_elab_declaration.specs.WrittenTrees.Shut as shut
use Rattle.cf_elab_env.proofs.InOrder.{behind, none_yet}
use Rattle.cf_elab_declaration.proofs.WrittenTreesLaws.Several.{arguments_end, arguments_stop, arguments_go}
use Rattle.cf_elab_declaration.proofs.WrittenTreesLaws.TreesKnown.{trees_more}
use Rattle.cf_elab_declaration.proofs.written_trees.expressions.expression_trees.Goals as goal

pub loop-e-init : goal.loop-e-init
loop-e-init c =
    let whole = shut.expression_trees c.args.at c.args.all.now c.args.env.now in
    record {
      made = none_yet whole ∙ ap (λ (l : List Tree). behind (trees_seen l) whole) (sym c.new-trees.ensures);
      known = subst (λ (l : List Tree). TreesKnown c.args.env.now.types (trees_seen l)) (sym c.new-trees.ensures) tt;
      grows = grows-refl c.args.env.now.types;
    }

pub expression_tree-requires : goal.expression_tree-requires
expression_tree-requires c = one_built c.args.all.now c.loop-e.e-index c.e-item.result c.requires c.loop-e-test.true c.e-item.is

pub returns-in_err-expression_tree-clause-made : goal.returns-in_err-expression_tree-clause-made
returns-in_err-expression_tree-clause-made c =
    let p = err_from_is_err_and c.from_residual.result c.from_residual.ensures.1 in
    rw (p.1, p.2)
    (arguments_stop (shut.expression_trees c.args.at c.args.all.now c.args.env.now) c.args.at c.loop-e.trees c.args.all.now c.loop-e.e-index c.e-item.result c.loop-e.env c.loop-e.invariant.made
    c.loop-e-test.true c.e-item.is c.in_err-expression_tree.field-0.0 c.in_err-expression_tree.ensures.made)

pub loop-e-preserved : goal.loop-e-preserved
loop-e-preserved c =
    let t = c.in_ok-expression_tree.field-0 in
    let next = c.expression_tree.new.env in
    let at = c.args.at in
    let more = arguments_go (shut.expression_trees at c.args.all.now c.args.env.now) at c.loop-e.trees c.args.all.now c.loop-e.e-index c.e-item.result c.loop-e.env c.loop-e.invariant.made
    c.loop-e-test.true c.e-item.is t next c.in_ok-expression_tree.ensures.made in
    record {
      made = more ∙ ap (λ (l : List Tree). behind (trees_seen l) (shut.expression_trees at (drop (c.loop-e.e-index + 1) c.args.all.now) next)) (sym c.in_ok-push.ensures.ok);
      known = subst (λ (l : List Tree). TreesKnown next.types (trees_seen l)) (sym c.in_ok-push.ensures.ok)
          (trees_more c.loop-e.env.types next.types c.loop-e.trees t c.in_ok-expression_tree.ensures.grows c.loop-e.invariant.known c.in_ok-expression_tree.ensures.known);
      grows = grows_through c.args.env.now.types c.loop-e.env.types next.types c.loop-e.invariant.grows c.in_ok-expression_tree.ensures.grows;
    }

pub returns-clause-made : goal.returns-clause-made
returns-clause-made c =
    let past : length c.args.all.now ≤ c.loop-e.e-index = search rules in
    c.loop-e.invariant.made ∙ arguments_end c.args.at c.loop-e.trees c.args.all.now c.loop-e.e-index c.loop-e.env past
