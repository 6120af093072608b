use Rattle.std.proofs.Common.{ap, ◌∙◌}
use Rattle.cf_lower.specs.Constants.{nothing_known}
use Rattle.cf_lower_constants.specs.Sites.{statements_at}
use Rattle.cf_lower_program.specs.Alike.{statements_alike}
use Rattle.cf_lowerable_starts.specs.Telling.{tells}
use Rattle.cf_lowerable_starts.proofs.walk.initialiser_alike.Goals as goal

pub returns : goal.returns
returns c =
    let x = c.args.x.now in
    let all = statements_at x c.args.all.now in
    c.in_ok-are.ensures.alike ∙ ap (λ g. statements_alike c.args.name.now all x.owner.now g (tells x c.new-state.result)) (c.new-state.ensures.known x)
    ∙ ap (λ t. statements_alike c.args.name.now all x.owner.now nothing_known t) (c.new-state.ensures.told x)
