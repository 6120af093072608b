-- Initialisers that are known stay so as the table of types grows.
use Rattle.std.proofs.Common.{List, [], ◌∷◌, ◌++◌, sym, subst}
use Rattle.std.proofs.lemmas.List.{map-append}
use Rattle.cf_types.specs.Table.{Table}
use Rattle.cf_elab.specs.Lists as lists
use Rattle.cf_elab.specs.Lists.{Trees, leaf, text, branch, trees, no_trees, listed}
use Rattle.cf_elab_env.specs.Holds.{Grows}
use Rattle.cf_elab_env.proofs.Growth.{known_grown}
use Rattle.cf_elab_initial.specs.Lists.Known.{TreeKnown, AllTreesKnown, TreesKnown}
use Rattle.cf_elab_initial.specs.Lists.Seen.{tree_seen, trees_seen}
use Rattle.cf_elab_initial.specs.declared.lists.tree.Tree.{Tree}

module _ (a b : Table) (g : Grows a b) where
  mutual
    tree_grown : (x : lists.Tree) → TreeKnown a x → TreeKnown b x
    tree_grown (leaf at v) k = known_grown a b v g k
    tree_grown (text at n bytes) k = tt
    tree_grown (branch at ts) k = all_grown ts k

    all_grown : (ts : Trees) → AllTreesKnown a ts → AllTreesKnown b ts
    all_grown no_trees k = tt
    all_grown (trees t ts) k = (tree_grown t k.0, all_grown ts k.1)

  trees_grown : (ts : List lists.Tree) → TreesKnown a ts → TreesKnown b ts
  trees_grown [] k = tt
  trees_grown (t ∷ ts) k = (tree_grown t k.0, trees_grown ts k.1)

one_more : (types : Table) (ts : List lists.Tree) (t : lists.Tree) → TreesKnown types ts → TreeKnown types t → TreesKnown types (ts ++ t ∷ [])
one_more types [] t k one = (one, tt)
one_more types (x ∷ ts) t k one = (k.0, one_more types ts t k.1 one)

pub trees_more : (a b : Table) (ts : List Tree) (t : Tree) → Grows a b → TreesKnown a (trees_seen ts) → TreeKnown b (tree_seen t) → TreesKnown b (trees_seen (ts ++ t ∷ []))
trees_more a b ts t g k one =
    subst (TreesKnown b) (sym (map-append tree_seen ts (t ∷ []))) (one_more b (trees_seen ts) (tree_seen t) (trees_grown a b g (trees_seen ts) k) one)

-- those of a list in braces
pub listed_known : (types : Table) (ts : List lists.Tree) → TreesKnown types ts → AllTreesKnown types (listed ts)
listed_known types [] k = tt
listed_known types (t ∷ ts) k = (k.0, listed_known types ts k.1)
