use Rattle.std.proofs.Common.{◌≡◌, ℕ, List, None, length, option_map, sym, ap, ◌∙◌}
use Rattle.std.proofs.lemmas.List.{length-map}
use Rattle.cf_elab_initial.specs.Lists.Fronts.{lone_bytes}
use Rattle.cf_elab_initial.specs.Lists.Seen.{tree_seen, trees_seen}
use Rattle.cf_elab_initial.specs.Lists.Shut as shut
use Rattle.cf_elab_initial.proofs.ListsLaws.CountLaws.{list_others, lone_none}
use Rattle.cf_elab_initial.proofs.lists.counting.list_count.Goals as goal

pub returns-in_ok-count-in-None : goal.returns-in_ok-count-in-None
returns-in_ok-count-in-None c =
    let types = c.args.env.now.types in
    let t = c.args.element in
    let ts = trees_seen c.args.trees.now in
    let long : length c.args.trees.now ≡ length ts = sym (length-map c.args.trees.now tree_seen) in
    let none : lone_bytes ts ≡ None = lone_none c.lone_bytes.result (lone_bytes ts) c.lone_bytes.ensures c.in-None.is in
    c.in_ok-count-in-None.ensures ∙ c.some_of-filled.ensures.count ∙ ap (λ (n : ℕ). length (shut.elements types t n ts).0) long ∙ sym (list_others types t ts none)
