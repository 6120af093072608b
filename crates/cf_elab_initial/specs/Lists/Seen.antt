-- The initialisers and plans that the code holds, as the definitions of elaboration see them.
use Rattle.std.specs.Prelude.{ℕ, List, map}
use Rattle.cf_elab.specs.Lists as lists
use Rattle.cf_elab_initial.specs.declared.lists.tree.Tree.{Tree, fold-Tree}
use Rattle.cf_elab_initial.specs.declared.lists.tree.Tree.TheOpen.{Tree-F}
use Rattle.cf_elab_initial.specs.declared.lists.plan.Plan.{Plan, fold-Plan}
use Rattle.cf_elab_initial.specs.declared.lists.plan.Plan.TheOpen.{Plan-F}

abbrev pub tree_step : Tree-F lists.Tree → lists.Tree
tree_step (Tree-F.Leaf at v) = lists.leaf at v
tree_step (Tree-F.Text at n bytes) = lists.text at n bytes
tree_step (Tree-F.Branch at ts) = lists.branch at (lists.listed ts)

abbrev pub tree_seen : Tree → lists.Tree
tree_seen = fold-Tree lists.Tree tree_step

abbrev pub plan_step : Plan-F lists.Plan → lists.Plan
plan_step (Plan-F.ByValue at t x) = lists.by_value at t (tree_seen x)
plan_step (Plan-F.ByList at ps) = lists.by_list at (lists.planned ps)
plan_step (Plan-F.ByText at bytes) = lists.by_text at bytes
plan_step (Plan-F.Wrong b) = lists.wrong b.rule b.at

abbrev pub plan_seen : Plan → lists.Plan
plan_seen = fold-Plan lists.Plan plan_step

abbrev pub trees_seen : List Tree → List lists.Tree
trees_seen = map tree_seen

abbrev pub plans_seen : List Plan → List lists.Plan
plans_seen = map plan_seen
