use Rattle.std.proofs.Common.{ap, ◌∙◌}
use Rattle.cf_lower_constants.specs.Knowing.{known_in}
use Rattle.cf_lower_program.specs.Starts.{is_known}
use Rattle.cf_lowerable_known.proofs.acts.known_at.Goals as goal

pub returns : goal.returns
returns c =
    let tables = c.args.x.now.tables.now in
    let held = c.in_ok-held.held in
    c.is_known.ensures tables held.target held.name ∙ ap (λ k. is_known (known_in tables k)) c.in_ok-held.ensures
