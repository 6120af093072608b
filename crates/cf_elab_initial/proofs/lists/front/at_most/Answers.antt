use Rattle.std.proofs.Common.{ℕ, if◌then◌else◌, nat_le, ap, sym, ◌∙◌}
use Rattle.std.proofs.lemmas.List.{length-map}
use Rattle.cf_elab_initial.specs.Lists.Seen.{tree_seen}
use Rattle.cf_elab_initial.proofs.lists.front.at_most.Goals as goal

pub returns : goal.returns
returns c =
    let left = c.args.left.now in
    c.lesser.ensures ∙ ap (λ (n : ℕ). if nat_le c.args.count n then c.args.count else n) (c.len.ensures ∙ left.ok.0 ∙ sym (length-map left.items tree_seen))
