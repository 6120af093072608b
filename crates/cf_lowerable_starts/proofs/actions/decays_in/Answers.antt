use Rattle.std.proofs.Common.{ap, ◌∙◌}
use Rattle.cf_lower_constants.specs.Knowing.{known_in}
use Rattle.cf_lower_program.specs.Alike.{decays}
use Rattle.cf_lowerable_starts.proofs.actions.decays_in.Goals as goal

pub returns : goal.returns
returns c =
    let tables = c.args.x.now.tables.now in
    c.in_ok-does.ensures c.in_ok-held.held.name ∙ ap (λ k. decays (known_in tables k)) c.in_ok-held.ensures
