use Rattle.cf_lowerable_places.proofs.LabelLaws.{lacks_more, lacks_stops, lacks_ended}
use Rattle.cf_lowerable_places.proofs.labels.lacks.Goals as goal

pub returns-then-same_label : goal.returns-then-same_label
returns-then-same_label c =
    λ x. lacks_stops x c.args.all.now c.loop-s.s-index _ c.args.label (c.loop-s.invariant x) c.s-item.result c.label_of.result c.same_label.result c.loop-s-test.true c.s-item.is
    (c.label_of.ensures x) c.same_label.ensures c.if-same_label.true

pub loop-s-preserved : goal.loop-s-preserved
loop-s-preserved c =
    λ x. lacks_more x c.args.all.now c.loop-s.s-index _ c.args.label (c.loop-s.invariant x) c.s-item.result c.label_of.result c.same_label.result c.loop-s-test.true c.s-item.is
    (c.label_of.ensures x) c.same_label.ensures c.if-same_label.false

pub returns : goal.returns
returns c = λ x. lacks_ended x c.args.all.now c.loop-s.s-index _ c.args.label (c.loop-s.invariant x) c.loop-s-test.false
