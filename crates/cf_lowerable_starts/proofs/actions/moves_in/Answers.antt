use Rattle.std.proofs.Common.{ap, ◌∙◌}
use Rattle.cf_lower_constants.specs.Knowing.{known_in}
use Rattle.cf_lower_program.specs.Alike.{moves}
use Rattle.cf_lowerable_starts.specs.Telling.{knows}
use Rattle.cf_lowerable_starts.proofs.actions.moves_in.Goals as goal

pub returns : goal.returns
returns c =
    let x = c.args.x.now in
    let tables = x.tables.now in
    let a = c.in_ok-a.a in
    let b = c.in_ok-b.b in
    c.in_ok-does.ensures a.name b.name ∙ ap (λ k. moves (known_in tables k) (known_in tables b)) c.in_ok-a.ensures
    ∙ ap (λ k. moves (knows x c.args.s.now c.args.left) (known_in tables k)) c.in_ok-b.ensures
