use Rattle.std.proofs.Common.{◌≡◌, ℕ, ◌+◌, Bool, if◌then◌else◌, List, length, sym, ap, ◌∙◌}
use Rattle.cf_elab_initial.specs.Lists.Seen.{tree_seen, trees_seen}
use Rattle.cf_elab_initial.specs.Lists.Shut as shut
use Rattle.cf_elab_initial.proofs.ListsLaws.CountLaws.{count_leaf, count_text, count_branch}
use Rattle.cf_elab_initial.proofs.ListsLaws.Rolled.{seen_leaf, seen_text, seen_branch}
use Rattle.cf_elab_initial.proofs.lists.counting.count_in.Goals as goal

pub returns-in-Leaf : goal.returns-in-Leaf
returns-in-Leaf c =
    let at = c.in-Leaf.at in
    sym (count_leaf c.args.env.now.types c.args.element (tree_seen c.args.tree.now) at c.in-Leaf.value (ap tree_seen c.in-Leaf.is ∙ seen_leaf at c.in-Leaf.value))

pub returns-in_ok-count-in-Text : goal.returns-in_ok-count-in-Text
returns-in_ok-count-in-Text c =
    let at = c.in-Text.at in
    let n = c.in-Text.literal_at in
    let bytes = c.in-Text.bytes in
    let text = count_text c.args.env.now.types c.args.element (tree_seen c.args.tree.now) at n bytes (ap tree_seen c.in-Text.is ∙ seen_text at n bytes) in
    c.in_ok-count-in-Text.ensures ∙ ap (λ (b : Bool). if b then length bytes + 1 else 1) c.is_char.ensures ∙ sym text

pub returns-in_ok-count-in-Branch : goal.returns-in_ok-count-in-Branch
returns-in_ok-count-in-Branch c =
    let at = c.in-Branch.at in
    let ts = c.in-Branch.trees in
    let types = c.args.env.now.types in
    let branch = count_branch types c.args.element (tree_seen c.args.tree.now) at (trees_seen ts) (ap tree_seen c.in-Branch.is ∙ seen_branch at ts) in
    c.in_ok-count-in-Branch.ensures ∙ ap (λ us. shut.list_count types c.args.element (trees_seen us)) c.as_slice.ensures ∙ sym branch
