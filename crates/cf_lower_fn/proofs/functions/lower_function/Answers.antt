use Rattle.std.proofs.Common.{ap, ◌∙◌}
use Rattle.std.specs.List.{flat_map}
use Rattle.cf_lower.specs.Functions.{arguments_at}
use Rattle.cf_lower_stmt.specs.Steps.{written}
use Rattle.cf_lower_fn.specs.Walks.{told}
use Rattle.cf_lower_fn.proofs.Whole.{lowered_scene, lowered_whole}
use Rattle.cf_lower_fn.proofs.functions.lower_function.Goals as goal

pub returns : goal.returns
returns c =
    let tables = c.args.tables.now in
    let f = c.args.f.now in
    let x = c.in_ok-x.x in
    let code = written c.in_ok-statements.statements in
    let does = ap (told tables) c.as_slice-actions.ensures.value ∙ c.in_ok-all.ensures in
    c.made_function.ensures
    ∙ lowered_whole tables f c.in_ok-prototype.prototype c.in_ok-locals.locals code (told tables c.as_slice-actions.result.now) c.in_ok-prototype.ensures c.in_ok-locals.ensures does
    (lowered_scene tables f x code c.in_ok-x.ensures.at c.in_ok-x.ensures.named c.in_ok-x.ensures.given c.in_ok-x.ensures.types
    (c.in_ok-x.ensures.arguments ∙ ap (flat_map arguments_at) does) c.in_ok-statements.ensures)
