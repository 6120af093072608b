use Rattle.std.proofs.Common.{ap, ◌∙◌}
use Rattle.std.specs.List.{flat_map}
use Rattle.cf_lower.specs.Functions.{arguments_at}
use Rattle.cf_lower_fn.specs.Walks.{told}
use Rattle.cf_lowerable_places.specs.Contents.{knowing}
use Rattle.cf_lowerable_places.proofs.FunctionForms.{function_placed}
use Rattle.cf_lowerable_places.proofs.functions.is_in_place.Goals as goal

pub returns : goal.returns
returns c =
    let tables = c.args.tables.now in
    let f = c.args.f.now in
    let x = c.in_ok-x.x in
    let does = ap (told tables) c.as_slice-actions.ensures.value ∙ c.in_ok-all.ensures in
    function_placed tables f x c.in_ok-good.good (knowing x c.new-cs.result) c.in_ok-x.ensures.at c.in_ok-x.ensures.given c.in_ok-x.ensures.types
    (c.in_ok-x.ensures.arguments ∙ ap (flat_map arguments_at) does) (c.new-cs.ensures x.tables.now) c.in_ok-good.ensures.placed
