use Rattle.std.proofs.Common.{◌≡◌, ℕ, ◌-◌, ◌<◌, false, List, Option, slice_get, option_map, refl, sym, ap, ◌∙◌, arith}
use Rattle.cf_elab.specs.Lists as lists
use Rattle.cf_elab_initial.specs.declared.lists.tree.Tree.{Tree}
use Rattle.cf_elab_initial.specs.Lists.Fronts.{front_by, is_nil}
use Rattle.cf_elab_initial.specs.Lists.Seen.{plan_seen, plans_seen, tree_seen, trees_seen}
use Rattle.cf_elab_initial.specs.Lists.Shut as shut
use Rattle.cf_elab_initial.proofs.ListsLaws.PlanLaws.{array_leaf, array_text, array_branch, front_none, front_whole, front_parts, full_fits, full_over, infront, one_more, none_wanted, none_left, seen_first, seen_more}
use Rattle.cf_elab_initial.proofs.ListsLaws.Rolled.{seen_leaf, seen_text, seen_branch, seen_list}
use Rattle.cf_elab_initial.proofs.lists.planning.+planning.Goals as goal

pub array_by_one-returns-in-Leaf : goal.array_by_one-returns-in-Leaf
array_by_one-returns-in-Leaf t c =
    c.misplaced.ensures ∙ sym (array_leaf c.args.env.now.types c.args.row c.args.at c.in-Leaf.at (tree_seen c.args.tree) c.in-Leaf.value (ap tree_seen c.in-Leaf.is ∙ seen_leaf c.in-Leaf.at c.in-Leaf.value))

pub array_by_one-returns-in-Text : goal.array_by_one-returns-in-Text
array_by_one-returns-in-Text t c =
    c.array_by_text.ensures
    ∙ sym (array_text c.args.env.now.types c.args.row c.args.at c.in-Text.at c.in-Text.literal_at c.in-Text.bytes (tree_seen c.args.tree) (ap tree_seen c.in-Text.is ∙ seen_text c.in-Text.at c.in-Text.literal_at c.in-Text.bytes))

pub array_by_one-returns : goal.array_by_one-returns
array_by_one-returns t c =
    c.in_ok-plan-in-Branch.ensures
    ∙ sym (array_branch c.args.env.now.types c.args.row c.args.at c.in-Branch.brace (trees_seen c.in-Branch.trees) (tree_seen c.args.tree) (ap tree_seen c.in-Branch.is ∙ seen_branch c.in-Branch.brace c.in-Branch.trees))

pub array_front-returns-in-Nothing : goal.array_front-returns-in-Nothing
array_front-returns-in-Nothing t c =
    let row = c.args.row in
    let items = c.args.left.now.items in
    let nothing = sym c.in-Nothing.is ∙ c.front_by.ensures ∙ ap (λ (o : Option Tree). front_by row.is_char (option_map tree_seen o)) c.first.ensures
    ∙ ap (front_by row.is_char) (sym (seen_first tree_seen items)) in
    front_none c.args.env.now.types row (trees_seen items) nothing ∙ ap (λ (p : lists.Plan). (p, trees_seen items)) (sym c.misplaced.ensures)

pub whole_front-returns-in_ok-plan-in-Some : goal.whole_front-returns-in_ok-plan-in-Some
whole_front-returns-in_ok-plan-in-Some t c =
    let row = c.args.row in
    let types = c.args.env.now.types in
    let left = c.args.left.now.items in
    let rest = c.pop_front.new.self.items in
    let tree = c.in-Some.tree in
    let whole = ap (front_by row.is_char) (seen_first tree_seen left) ∙ c.requires.whole in
    let at : c.at-at.result ≡ lists.tree_place (tree_seen tree) = c.at-at.ensures in
    front_whole types row (trees_seen left) (trees_seen rest) (tree_seen tree) whole (ap trees_seen c.in-Some.ensures.items)
    ∙ ap (λ (n : ℕ). (shut.array_by_one types row n (tree_seen tree), trees_seen rest)) (sym at)
    ∙ ap (λ (p : lists.Plan). (p, trees_seen rest)) (sym c.in_ok-plan-in-Some.ensures)

pub parts_front-returns : goal.parts_front-returns
parts_front-returns t c =
    let left = c.args.left.now.items in
    let parts = ap (front_by c.args.row.is_char) (seen_first tree_seen left) ∙ c.requires.parts in
    front_parts c.args.env.now.types c.args.row c.args.at c.at_most-count.result (trees_seen left) (trees_seen c.elements.new.left.items) (plans_seen c.in_ok-plans.plans) parts
    c.at_most-count.ensures c.in_ok-plans.ensures ∙ ap (λ (p : lists.Plan). (p, trees_seen c.elements.new.left.items)) (sym (seen_list c.args.at c.in_ok-plans.plans))

pub full_list-returns-then-is_done : goal.full_list-returns-then-is_done
full_list-returns-then-is_done t c =
    let ts = trees_seen c.args.trees in
    let types = c.args.env.now.types in
    let el = c.args.row.element in
    let queued = ap trees_seen c.queued-left.ensures in
    let count = c.at_most-count.ensures ∙ ap (lists.at_most c.args.row.count) queued in
    let made = ap (shut.elements types el c.at_most-count.result) (sym queued) ∙ c.in_ok-plans.ensures in
    seen_list c.args.at c.in_ok-plans.plans ∙ sym (full_fits types c.args.row c.args.at ts c.at_most-count.result (plans_seen c.in_ok-plans.plans) (trees_seen c.elements.new.left.items) count made
    (sym c.is_done.ensures ∙ c.if-is_done.true))

pub full_list-returns : goal.full_list-returns
full_list-returns t c =
    let ts = trees_seen c.args.trees in
    let types = c.args.env.now.types in
    let el = c.args.row.element in
    let queued = ap trees_seen c.queued-left.ensures in
    let count = c.at_most-count.ensures ∙ ap (lists.at_most c.args.row.count) queued in
    let made = ap (shut.elements types el c.at_most-count.result) (sym queued) ∙ c.in_ok-plans.ensures in
    c.misplaced.ensures ∙ sym (full_over types c.args.row c.args.at ts c.at_most-count.result (plans_seen c.in_ok-plans.plans) (trees_seen c.elements.new.left.items) count made
    (sym c.is_done.ensures ∙ c.if-is_done.false))

pub elements-loop-wanted-preserved : goal.elements-loop-wanted-preserved
elements-loop-wanted-preserved t c =
    let types = c.args.env.now.types in
    let wanted = c.loop-wanted.wanted in
    let ts = trees_seen c.loop-wanted.left.items in
    let rest = trees_seen c.from_front.new.left.items in
    let ps = c.loop-wanted.plans in
    let p = c.in_ok-from_front.field-0 in
    let some : 0 < wanted = omega (arith, c.loop-wanted-test.true) in
    let filled : is_nil ts ≡ false = sym c.is_done.ensures ∙ c.if-not-is_done.true in
    let kept = one_more types c.args.ty wanted ts (plans_seen ps) (shut.elements types c.args.ty c.args.count (trees_seen c.args.left.now.items)) c.loop-wanted.invariant (wanted - 1) rest
    (plan_seen p) some refl filled c.in_ok-from_front.ensures in
    ap (λ (qs : List lists.Plan). infront qs (shut.elements types c.args.ty (wanted - 1) rest)) (seen_more plan_seen ps c.push.new.self p c.in_ok-push.ensures.ok) ∙ kept
