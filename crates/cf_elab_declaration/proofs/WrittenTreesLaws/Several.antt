-- Several initialisers, one after the other.
use Rattle.std.proofs.Common.{◌≡◌, ◌∙◌, ℕ, ◌+◌, ◌<◌, ◌≤◌, List, [], ◌∷◌, ◌++◌, length, get_or, drop, ap, sym}
use Rattle.std.proofs.lemmas.List.{map-append}
use Rattle.cf_syntax.specs.declared.expression.Expr.{Expr}
use Rattle.cf_unit.specs.declared.initialiser.Init.{Init}
use Rattle.cf_elab.specs.Answer.{Answer, Made}
use Rattle.cf_elab.specs.Env.{Env}
use Rattle.cf_elab.specs.Lists as lists
use Rattle.cf_elab_env.specs.Answered.{Stops}
use Rattle.cf_elab_env.specs.declared.stop.Stop.{Stop}
use Rattle.cf_elab_initial.specs.Lists.Seen.{tree_seen, trees_seen}
use Rattle.cf_elab_initial.specs.declared.lists.tree.Tree.{Tree}
use Rattle.cf_elab_declaration.specs.WrittenTrees.Shut as shut
use Rattle.cf_elab_env.proofs.InOrder as order
use Rattle.cf_elab_env.proofs.InOrder.{behind}

-- ---- arguments

pub arguments_end : (at : ℕ) (found : List Tree) (es : List Expr) (i : ℕ) (env : Env) → length es ≤ i
    → behind (trees_seen found) (shut.expression_trees at (drop i es) env) ≡ Made (trees_seen found) env
unfolding shut.expression_trees
arguments_end at found es i env le = order.at_end (shut.expression_tree at) (trees_seen found) es i env le

module _ (start : Answer (List lists.Tree)) (at : ℕ) (found : List Tree) (es : List Expr) (i : ℕ) (e : Expr) (env : Env)
    (so_far : start ≡ behind (trees_seen found) (shut.expression_trees at (drop i es) env)) (within : i < length es) (there : e ≡ get_or es i e) where
  pub arguments_stop : (stop : Stop) → Stops (shut.expression_tree at e env) stop → Stops start stop
  unfolding shut.expression_trees
  arguments_stop = order.stopped (shut.expression_tree at) (trees_seen found) es i e env start so_far within there

  pub arguments_go : (t : Tree) (next : Env) → shut.expression_tree at e env ≡ Made (tree_seen t) next
      → start ≡ behind (trees_seen (found ++ t ∷ [])) (shut.expression_trees at (drop (i + 1) es) next)
  unfolding shut.expression_trees
  arguments_go t next h =
      order.going (shut.expression_tree at) (trees_seen found) es i e env start so_far within there (tree_seen t) next h
      ∙ ap (λ l. behind l (shut.expression_trees at (drop (i + 1) es) next)) (sym (map-append tree_seen found (t ∷ [])))

-- ---- values in braces

pub list_end : (found : List Tree) (is : List Init) (i : ℕ) (env : Env) → length is ≤ i
    → behind (trees_seen found) (shut.trees_of (drop i is) env) ≡ Made (trees_seen found) env
unfolding shut.trees_of
list_end found is i env le = order.at_end shut.tree_of (trees_seen found) is i env le

module _ (start : Answer (List lists.Tree)) (found : List Tree) (is : List Init) (i : ℕ) (x : Init) (env : Env)
    (so_far : start ≡ behind (trees_seen found) (shut.trees_of (drop i is) env)) (within : i < length is) (there : x ≡ get_or is i x) where
  pub list_stop : (stop : Stop) → Stops (shut.tree_of x env) stop → Stops start stop
  unfolding shut.trees_of
  list_stop = order.stopped shut.tree_of (trees_seen found) is i x env start so_far within there

  pub list_go : (t : Tree) (next : Env) → shut.tree_of x env ≡ Made (tree_seen t) next → start ≡ behind (trees_seen (found ++ t ∷ [])) (shut.trees_of (drop (i + 1) is) next)
  unfolding shut.trees_of
  list_go t next h =
      order.going shut.tree_of (trees_seen found) is i x env start so_far within there (tree_seen t) next h
      ∙ ap (λ l. behind l (shut.trees_of (drop (i + 1) is) next)) (sym (map-append tree_seen found (t ∷ [])))
