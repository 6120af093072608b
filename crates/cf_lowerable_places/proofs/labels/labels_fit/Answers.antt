use Rattle.std.proofs.Common.{ap, ◌∙◌}
use Rattle.cf_lower_held.specs.Scenes.{statements_in}
use Rattle.cf_lower_place.specs.InPlace.{labels_fit}
use Rattle.cf_lowerable_places.proofs.LabelLaws.{fit_more, fit_stops, fit_ended}
use Rattle.cf_lowerable_places.proofs.labels.labels_fit.Goals as goal

pub returns-then-not-label_fits : goal.returns-then-not-label_fits
returns-then-not-label_fits c =
    λ x. fit_stops x c.as_slice-s-items.result.now c.loop-s.s-index _ c.args.kind (c.loop-s.invariant x) c.s-item.result c.label_of.result c.label_fits.result c.loop-s-test.true c.s-item.is
    (c.label_of.ensures x) c.label_fits.ensures c.if-not-label_fits.true ∙ ap (λ l. labels_fit c.args.kind (statements_in x l)) c.as_slice-s-items.ensures

pub loop-s-preserved : goal.loop-s-preserved
loop-s-preserved c =
    λ x. fit_more x c.as_slice-s-items.result.now c.loop-s.s-index _ c.args.kind (c.loop-s.invariant x) c.s-item.result c.label_of.result c.label_fits.result c.loop-s-test.true c.s-item.is
    (c.label_of.ensures x) c.label_fits.ensures c.if-not-label_fits.false

pub returns : goal.returns
returns c =
    λ x. fit_ended x c.as_slice-s-items.result.now c.loop-s.s-index _ c.args.kind (c.loop-s.invariant x) c.loop-s-test.false
    ∙ ap (λ l. labels_fit c.args.kind (statements_in x l)) c.as_slice-s-items.ensures
