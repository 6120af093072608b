use Rattle.std.proofs.Common.{◌&&◌, ap, ◌∙◌}
use Rattle.cf_lowerable_types.specs.Kinds.{has_kind}
use Rattle.cf_lowerable_places.proofs.labels.selects.Goals as goal

pub returns : goal.returns
returns c =
    λ x. c.both.ensures ∙ ap (λ b. b && c.labels_fit.result) c.has.ensures ∙ ap (λ b. has_kind c.args.kinds.now c.args.kind && b) (c.labels_fit.ensures x)
