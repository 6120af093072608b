use Rattle.std.proofs.Common.{List, ◌++◌, ap, ◌∙◌}
use Rattle.cf_lowerable_open.specs.declared.located.Place.{Place}
use Rattle.cf_lowerable_open.specs.Located.{shared_at}
use Rattle.cf_lowerable_open.proofs.Counts.{shared_told}
use Rattle.cf_lowerable_open.proofs.located.shared.Goals as goal

pub returns : goal.returns
returns c =
    let left = c.args.left.now in
    let right = c.args.right.now in
    shared_told left right c.add_shared.new.made.items (c.in_ok-add_shared.ensures ∙ ap (λ (l : List Place). l ++ shared_at left left right) c.new-made.ensures.items)
