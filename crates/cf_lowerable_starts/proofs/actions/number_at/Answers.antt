use Rattle.std.proofs.Common.{ap, ◌∙◌}
use Rattle.cf_lower_constants.specs.Knowing.{known_in}
use Rattle.cf_lower_program.specs.Alike.{has_number}
use Rattle.cf_lowerable_starts.proofs.actions.number_at.Goals as goal

pub returns : goal.returns
returns c =
    let x = c.args.x.now in
    let tables = x.tables.now in
    let held = c.in_ok-held.held in
    c.has_number.ensures tables held.target held.name ∙ ap (λ k. has_number (known_in tables k)) c.in_ok-held.ensures
