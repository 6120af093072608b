use Rattle.std.proofs.Common.{◌&&◌, ◌||◌, ap, ◌∙◌}
use Rattle.cf_base.specs.declared.kind.Kind.TheVariants.{Int}
use Rattle.cf_lower_held.specs.Scenes.{statements_in}
use Rattle.cf_lower_place.specs.InPlace.{labels_fit}
use Rattle.cf_lowerable_types.specs.Kinds.{has_kind}
use Rattle.cf_lowerable_places.proofs.labels.selects_any.Goals as goal

pub returns : goal.returns
returns c =
    λ x. c.either.ensures ∙ ap (λ b. b || c.selects-unsigned.result) (c.selects-signed.ensures x)
    ∙ ap (λ b. (has_kind c.args.kinds.now Int && labels_fit Int (statements_in x c.args.all.now)) || b) (c.selects-unsigned.ensures x)
