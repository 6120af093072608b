-- Each initialiser and each plan that the code holds, as the definitions see it.
use Rattle.std.proofs.Common.{◌≡◌, ℕ, List, sym, ap, ◌∙◌}
use Rattle.cf_base.specs.declared.rule.Broken.{Broken}
use Rattle.cf_elab.specs.Lists as lists
use Rattle.cf_elab.specs.Operand.{Value}
use Rattle.cf_elab_initial.specs.declared.lists.tree.Tree.{Tree, fold-roll-Tree}
use Rattle.cf_elab_initial.specs.declared.lists.tree.Tree.TheOpen.{Tree-F}
use Rattle.cf_elab_initial.specs.declared.lists.tree.Tree.TheVariants as tree
use Rattle.cf_elab_initial.specs.declared.lists.tree.Tree.TheVariants.{rolls-Leaf, rolls-Text, rolls-Branch}
use Rattle.cf_elab_initial.specs.declared.lists.plan.Plan.{Plan, fold-roll-Plan}
use Rattle.cf_elab_initial.specs.declared.lists.plan.Plan.TheOpen.{Plan-F}
use Rattle.cf_elab_initial.specs.declared.lists.plan.Plan.TheVariants as plan
use Rattle.cf_elab_initial.specs.declared.lists.plan.Plan.TheVariants.{rolls-ByValue, rolls-ByList, rolls-ByText, rolls-Wrong}
use Rattle.cf_elab_initial.specs.Lists.Seen.{tree_seen, trees_seen, tree_step, plan_seen, plans_seen, plan_step}

pub seen_leaf : (at : ℕ) (v : Value) → tree_seen (tree.Leaf at v) ≡ lists.leaf at v
seen_leaf at v = ap tree_seen (sym (rolls-Leaf at v)) ∙ fold-roll-Tree lists.Tree tree_step (Tree-F.Leaf at v)

pub seen_text : (at n : ℕ) (bytes : List ℕ) → tree_seen (tree.Text at n bytes) ≡ lists.text at n bytes
seen_text at n bytes = ap tree_seen (sym (rolls-Text at n bytes)) ∙ fold-roll-Tree lists.Tree tree_step (Tree-F.Text at n bytes)

pub seen_branch : (at : ℕ) (ts : List Tree) → tree_seen (tree.Branch at ts) ≡ lists.branch at (lists.listed (trees_seen ts))
seen_branch at ts = ap tree_seen (sym (rolls-Branch at ts)) ∙ fold-roll-Tree lists.Tree tree_step (Tree-F.Branch at ts)

pub seen_value : (at t : ℕ) (x : Tree) → plan_seen (plan.ByValue at t x) ≡ lists.by_value at t (tree_seen x)
seen_value at t x = ap plan_seen (sym (rolls-ByValue at t x)) ∙ fold-roll-Plan lists.Plan plan_step (Plan-F.ByValue at t x)

pub seen_list : (at : ℕ) (ps : List Plan) → plan_seen (plan.ByList at ps) ≡ lists.by_list at (lists.planned (plans_seen ps))
seen_list at ps = ap plan_seen (sym (rolls-ByList at ps)) ∙ fold-roll-Plan lists.Plan plan_step (Plan-F.ByList at ps)

pub seen_literal : (at : ℕ) (bytes : List ℕ) → plan_seen (plan.ByText at bytes) ≡ lists.by_text at bytes
seen_literal at bytes = ap plan_seen (sym (rolls-ByText at bytes)) ∙ fold-roll-Plan lists.Plan plan_step (Plan-F.ByText at bytes)

pub seen_wrong : (b : Broken) → plan_seen (plan.Wrong b) ≡ lists.wrong b.rule b.at
seen_wrong b = ap plan_seen (sym (rolls-Wrong b)) ∙ fold-roll-Plan lists.Plan plan_step (Plan-F.Wrong b)
