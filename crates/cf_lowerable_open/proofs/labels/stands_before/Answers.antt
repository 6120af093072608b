use Rattle.cf_lowerable_open.specs.Views.{statements_in}
use Rattle.cf_lowerable_open.proofs.Scans.{stand_goes, stand_stops, stands_all}
use Rattle.cf_lowerable_open.proofs.labels.stands_before.Goals as goal

pub returns-then-not-may_stand : goal.returns-then-not-may_stand
returns-then-not-may_stand c =
    let x = c.args.x.now in
    stand_stops x c.args.before.now c.loop-s.s-index c.s-item.result c.loop-s-test.true c.s-item.is c.read_head.result c.may_stand.result c.read_head.ensures
    (statements_in x c.args.next.now) (statements_in x c.args.before.now) c.may_stand.ensures c.if-not-may_stand.true c.loop-s.invariant

pub loop-s-preserved : goal.loop-s-preserved
loop-s-preserved c =
    let x = c.args.x.now in
    stand_goes x c.args.before.now c.loop-s.s-index c.s-item.result c.loop-s-test.true c.s-item.is c.read_head.result c.may_stand.result c.read_head.ensures
    (statements_in x c.args.next.now) (statements_in x c.args.before.now) c.may_stand.ensures c.if-not-may_stand.false c.loop-s.invariant

pub returns : goal.returns
returns c = stands_all c.args.x.now c.args.before.now c.loop-s.s-index c.loop-s-test.false (statements_in c.args.x.now c.args.next.now) _ c.loop-s.invariant
