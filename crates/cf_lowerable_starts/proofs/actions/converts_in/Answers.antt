use Rattle.std.proofs.Common.{ap, ◌∙◌}
use Rattle.cf_lower_constants.specs.Knowing.{known_in}
use Rattle.cf_core.specs.FromTypes.{type_of}
use Rattle.cf_lower_program.specs.Alike.{converts}
use Rattle.cf_lowerable_starts.proofs.actions.converts_in.Goals as goal

pub returns : goal.returns
returns c =
    let tables = c.args.x.now.tables.now in
    c.in_ok-does.ensures c.in_ok-held.held.name ∙ ap (λ k. converts (type_of tables c.args.ty) (known_in tables k)) c.in_ok-held.ensures
