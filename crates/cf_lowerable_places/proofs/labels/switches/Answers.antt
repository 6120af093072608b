use Rattle.std.proofs.Common.{sym, ap, ◌∙◌}
use Rattle.cf_lower_held.specs.Scenes.{statements_in}
use Rattle.cf_lower_place.specs.InPlace.{switches}
use Rattle.cf_lowerable_places.specs.Contents.{known}
use Rattle.cf_lowerable_places.proofs.labels.switches.Goals as goal

pub returns-in-Number : goal.returns-in-Number
returns-in-Number c =
    λ x. c.selects_any.ensures x ∙ sym (ap (λ k. switches (known x.tables.now k) (statements_in x c.args.all.now)) c.in-Number.is)
