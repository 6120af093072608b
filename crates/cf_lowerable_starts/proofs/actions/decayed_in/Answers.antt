use Rattle.std.proofs.Common.{ap, ◌∙◌}
use Rattle.cf_lower_constants.specs.Knowing.{known_in}
use Rattle.cf_lower_program.specs.Alike.{decayed_fact}
use Rattle.cf_lowerable_starts.specs.Telling.{detail_in, knows}
use Rattle.cf_lowerable_starts.proofs.actions.decayed_in.Goals as goal

pub returns : goal.returns
returns c =
    let x = c.args.x.now in
    let tables = x.tables.now in
    c.decayed_detail.ensures c.in_ok-held.held.name ∙ ap (λ k. decayed_fact (known_in tables k) (detail_in tables c.get-detail.result)) c.in_ok-held.ensures
    ∙ ap (λ d. decayed_fact (knows x c.args.s.now c.args.array) (detail_in tables d)) c.get-detail.ensures
