-- Values at indices, in a tree that has room for each index.
use Rattle.std.specs.Prelude.{◌≡◌, ◌≢◌, ℕ, zero, suc, ◌/◌, ◌%◌, ◌<◌, true, cond, nat_eq, List, [], ◌++◌, Option, Some, None, is_some, option_to_list}
use Rattle.cf_shared.specs.declared.tree.Fork.{Fork, Fork-F}
use Rattle.cf_shared.specs.declared.tree.Tree.{Tree, Tree-F, fold-Tree, out-Tree}
use Rattle.cf_shared.specs.declared.tree.Tree.TheOpen as layer
use Rattle.cf_shared.specs.declared.tree.Tree.TheVariants as tree

-- what a fork has at an index, where its branches answer: index 0 is at the root, 1, 3, 5 .. are those of the first branch, and 2, 4, 6 ..
-- those of the second
abbrev pub at_fork : {T : Type 0} → Fork-F T (ℕ → Option T) (ℕ → Option T) → ℕ → Option T
at_fork fork zero = fork.here
at_fork fork (suc k) = cond (nat_eq (k % 2) 0) (fork.odd (k / 2)) (fork.even (k / 2))

abbrev pub at_tree : {T : Type 0} → Tree-F T (ℕ → Option T) (ℕ → Option T) → ℕ → Option T
at_tree layer.Empty index = None
at_tree (layer.Fork fork) index = fork index

unfoldable pub at : {T : Type 0} → Tree T → ℕ → Option T
at {T = T} = fold-Tree T (ℕ → Option T) (ℕ → Option T) at_tree at_fork

-- the root with its branches
abbrev pub opening : {T : Type 0} → Tree-F T (Tree T) (Fork T) → Fork T
opening layer.Empty = record { here = None; odd = tree.Empty; even = tree.Empty }
opening (layer.Fork fork) = fork

abbrev pub opened : {T : Type 0} → Tree T → Fork T
opened {T = T} t = opening (out-Tree T t)

-- the newer tree has the value at the index, and at each other one what the older has
pub record Puts {T : Type 0} (older : Tree T) (index : ℕ) (value : T) (newer : Tree T) : Type 0 where
  pub here : at newer index ≡ Some value
  pub elsewhere : (i : ℕ) → i ≢ index → at newer i ≡ at older i

-- the values at the indices below n
abbrev pub listed : {T : Type 0} → ℕ → Tree T → List T
listed zero t = []
listed (suc i) t = listed i t ++ option_to_list (at t i)

-- a value stands at each index below n
abbrev pub IsFull : {T : Type 0} → ℕ → Tree T → Type 0
IsFull n t = (i : ℕ) → i < n → is_some (at t i) ≡ true
