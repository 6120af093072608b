-- Values in initialisers by their forms.
use Rattle.std.proofs.Common.{◌≡◌, ℕ, List, sym, ap, subst, ◌∙◌}
use Rattle.cf_syntax.specs.declared.expression.Expr.{Expr}
use Rattle.cf_types.specs.Table.{Table}
use Rattle.cf_unit.specs.declared.initialiser.Init.{Init, fold-roll-Init}
use Rattle.cf_unit.specs.declared.initialiser.Init.TheOpen.{Init-F}
use Rattle.cf_unit.specs.declared.initialiser.Init.TheVariants as form
use Rattle.cf_unit.specs.declared.initialiser.Init.TheVariants.{rolls-Value, rolls-List}
use Rattle.cf_elab.specs.Answer.{Elab, Made, onward}
use Rattle.cf_elab.specs.Env.{Env}
use Rattle.cf_elab.specs.Lists as lists
use Rattle.cf_elab_env.proofs.Growth.{grown_laws}
use Rattle.cf_elab_initial.specs.Lists.Known.{TreeKnown, TreesKnown}
use Rattle.cf_elab_initial.specs.Lists.Seen.{tree_seen, trees_seen}
use Rattle.cf_elab_initial.specs.declared.lists.tree.Tree.{Tree}
use Rattle.cf_elab_initial.specs.declared.lists.tree.Tree.TheVariants as tree
use Rattle.cf_elab_initial.proofs.ListsLaws.Rolled.{seen_branch}
use Rattle.cf_elab_declaration.specs.WrittenTrees.Shut as shut
use Rattle.cf_elab_declaration.proofs.WrittenTreesLaws.TreesKnown.{listed_known}

pub value_is : (at : ℕ) (e : Expr) (env : Env) → shut.tree_of (form.Value at e) env ≡ shut.expression_tree at e env
unfolding shut.tree_of shut.expression_tree
value_is at e env = ap (λ i. lists.tree_of i env) (sym (rolls-Value at e)) ∙ ap (λ (run : Elab lists.Tree). run env) (fold-roll-Init (Elab lists.Tree) lists.tree_step (Init-F.Value at e))

module _ (at : ℕ) (is : List Init) (env : Env) where
  pub list_is : shut.tree_of (form.List at is) env ≡ onward (shut.trees_of is env) (λ ts env. Made (lists.branch at (lists.listed ts)) env)
  unfolding shut.tree_of shut.trees_of
  list_is = ap (λ i. lists.tree_of i env) (sym (rolls-List at is)) ∙ ap (λ (run : Elab lists.Tree). run env) (fold-roll-Init (Elab lists.Tree) lists.tree_step (Init-F.List at is))

  pub list_made : (ts : List Tree) (new : Env) → shut.trees_of is env ≡ Made (trees_seen ts) new → shut.tree_of (form.List at is) env ≡ Made (tree_seen (tree.Branch at ts)) new
  list_made ts new h = list_is ∙ ap (λ a. onward a (λ ts env. Made (lists.branch at (lists.listed ts)) env)) h ∙ ap (λ t. Made t new) (sym (seen_branch at ts))

pub branch_known : (types : Table) (at : ℕ) (ts : List Tree) → TreesKnown types (trees_seen ts) → TreeKnown types (tree_seen (tree.Branch at ts))
branch_known types at ts k = subst (TreeKnown types) (sym (seen_branch at ts)) (listed_known types (trees_seen ts) k)

pub ruleset tree_laws = (value_is, list_is, list_made, branch_known, grown_laws)
