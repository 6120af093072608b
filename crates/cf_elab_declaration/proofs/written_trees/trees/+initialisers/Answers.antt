use Rattle.std.proofs.Common.{rules, arith, ◌≤◌, ◌∙◌, ap, sym, subst, List, drop, ◌+◌, length}
use Rattle.std.proofs.lemmas.Result.{err_from_is_err_and}
use denote.Param.Weighed.{most, at_most}
use Rattle.cf_unit.proofs.initialiser.Init.TheLaws.{the_size}
use Rattle.cf_unit.specs.declared.initialiser.Init.{Init}
use Rattle.cf_elab_env.proofs.Growth.{grows_through, grows-refl}
use Rattle.cf_elab_initial.specs.Lists.Known.{TreesKnown}
use Rattle.cf_elab_initial.specs.Lists.Seen.{trees_seen}
use Rattle.cf_elab_initial.specs.declared.lists.tree.Tree.{Tree}
use Rattle.cf_elab_declaration.specs.WrittenTrees.Shut as shut
use Rattle.cf_elab_declaration.proofs.WrittenTreesLaws.BuiltParts.{one_built}
use Rattle.cf_elab_env.proofs.InOrder.{behind, none_yet}
use Rattle.cf_elab_declaration.proofs.WrittenTreesLaws.Several.{list_end, list_stop, list_go}
use Rattle.cf_elab_declaration.proofs.WrittenTreesLaws.TreesKnown.{trees_more}
use Rattle.cf_elab_declaration.proofs.written_trees.trees.+initialisers.Goals as goal

pub trees_of-loop-i-init : goal.trees_of-loop-i-init
trees_of-loop-i-init t c =
    let whole = shut.trees_of c.args.all.now c.args.env.now in
    record {
      made = none_yet whole ∙ ap (λ (l : List Tree). behind (trees_seen l) whole) (sym c.new-trees.ensures);
      known = subst (λ (l : List Tree). TreesKnown c.args.env.now.types (trees_seen l)) (sym c.new-trees.ensures) tt;
      grows = grows-refl c.args.env.now.types;
    }

pub trees_of-tree_of-requires : goal.trees_of-tree_of-requires
trees_of-tree_of-requires t c =
    let items = c.args.all.now in
    let le = at_most (λ (x : Init). the_size x) items c.loop-i.i-index c.i-item.result c.loop-i-test.true in
    let there : the_size c.i-item.result ≤ most (λ (x : Init). the_size x) items =
    subst (λ (x : Init). the_size x ≤ most (λ (x : Init). the_size x) items) (sym c.i-item.is) le in
    (grind (arith, there), one_built items c.loop-i.i-index c.i-item.result c.requires c.loop-i-test.true c.i-item.is)

pub trees_of-returns-in_err-tree_of-clause-made : goal.trees_of-returns-in_err-tree_of-clause-made
trees_of-returns-in_err-tree_of-clause-made t c =
    let p = err_from_is_err_and c.from_residual.result c.from_residual.ensures.1 in
    rw (p.1, p.2)
    (list_stop (shut.trees_of c.args.all.now c.args.env.now) c.loop-i.trees c.args.all.now c.loop-i.i-index c.i-item.result c.loop-i.env c.loop-i.invariant.made c.loop-i-test.true c.i-item.is
    c.in_err-tree_of.field-0.0 c.in_err-tree_of.ensures.made)

pub trees_of-loop-i-preserved : goal.trees_of-loop-i-preserved
trees_of-loop-i-preserved t c =
    let x = c.in_ok-tree_of.field-0 in
    let next = c.tree_of.new.env in
    let more = list_go (shut.trees_of c.args.all.now c.args.env.now) c.loop-i.trees c.args.all.now c.loop-i.i-index c.i-item.result c.loop-i.env c.loop-i.invariant.made c.loop-i-test.true c.i-item.is
    x next c.in_ok-tree_of.ensures.made in
    record {
      made = more ∙ ap (λ (l : List Tree). behind (trees_seen l) (shut.trees_of (drop (c.loop-i.i-index + 1) c.args.all.now) next)) (sym c.in_ok-push.ensures.ok);
      known = subst (λ (l : List Tree). TreesKnown next.types (trees_seen l)) (sym c.in_ok-push.ensures.ok)
          (trees_more c.loop-i.env.types next.types c.loop-i.trees x c.in_ok-tree_of.ensures.grows c.loop-i.invariant.known c.in_ok-tree_of.ensures.known);
      grows = grows_through c.args.env.now.types c.loop-i.env.types next.types c.loop-i.invariant.grows c.in_ok-tree_of.ensures.grows;
    }

pub trees_of-returns-clause-made : goal.trees_of-returns-clause-made
trees_of-returns-clause-made t c =
    let past : length c.args.all.now ≤ c.loop-i.i-index = search rules in
    c.loop-i.invariant.made ∙ list_end c.loop-i.trees c.args.all.now c.loop-i.i-index c.loop-i.env past
