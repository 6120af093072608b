use Rattle.cf_lowerable_places.proofs.LabelLaws.{differ_more, differ_stops, differ_ended, none_left}
use Rattle.cf_lowerable_places.proofs.labels.labels_differ.Goals as goal

pub returns-then-not-lacks : goal.returns-then-not-lacks
returns-then-not-lacks c =
    λ x. differ_stops x c.loop-s.rest.now _ (c.loop-s.invariant x) c.in-Some.s.now c.in-Some.others.now c.in-Some.ensures.cases.0 c.label_of.result (c.label_of.ensures x) c.lacks.result
    (c.lacks.ensures x) c.if-not-lacks.true

pub loop-s-preserved : goal.loop-s-preserved
loop-s-preserved c =
    λ x. differ_more x c.loop-s.rest.now _ (c.loop-s.invariant x) c.in-Some.s.now c.in-Some.others.now c.in-Some.ensures.cases.0 c.label_of.result (c.label_of.ensures x) c.lacks.result
    (c.lacks.ensures x) c.if-not-lacks.false

pub returns : goal.returns
returns c = λ x. differ_ended x c.loop-s.rest.now _ (c.loop-s.invariant x) (none_left c.loop-s.rest.now c.in_default.ensures.cases)
