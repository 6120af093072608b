use Rattle.std.proofs.Common.{ap, ◌∙◌}
use Rattle.cf_lower_constants.specs.Knowing.{known_in, nameless}
use Rattle.cf_lower_constants.specs.Sites.{told_all}
use Rattle.cf_lower_constants.proofs.Operated.{truth_is}
use Rattle.cf_lower_constants.proofs.acts.tested.Goals as goal

pub returns : goal.returns
returns c =
    let x = c.args.x.now in
    let tables = x.tables.now in
    ap (known_in tables) (c.nameless.ensures ∙ ap nameless c.of_truth.ensures)
    ∙ truth_is tables (told_all x c.args.known.now c.args.operand) c.in_ok-given.given c.in_ok-given.ensures
