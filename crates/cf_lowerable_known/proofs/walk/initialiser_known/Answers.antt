use Rattle.std.proofs.Common.{ap, ◌∙◌}
use Rattle.cf_lower_constants.proofs.Lists.{knows_nothing}
use Rattle.cf_lower_constants.specs.Sites.{statements_at}
use Rattle.cf_lower_program.specs.Starts.{starts_known}
use Rattle.cf_lowerable_known.proofs.walk.initialiser_known.Goals as goal

pub returns : goal.returns
returns c =
    let x = c.args.x.now in
    c.in_ok-are.ensures.known
    ∙ ap (starts_known (statements_at x c.args.all.now) x.owner.now) (knows_nothing x.tables.now c.new-known.result c.new-known.ensures)
