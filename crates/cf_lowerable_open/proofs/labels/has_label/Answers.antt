use Rattle.cf_lowerable_open.proofs.Scans.{label_found, label_none, label_past}
use Rattle.cf_lowerable_open.proofs.labels.has_label.Goals as goal

pub returns-then-is_label : goal.returns-then-is_label
returns-then-is_label c =
    label_found c.args.x.now c.args.all.now c.loop-s.s-index c.s-item.result c.loop-s-test.true c.s-item.is c.read_head.result c.is_label.result c.read_head.ensures c.args.label
    c.is_label.ensures c.if-is_label.true c.loop-s.invariant

pub loop-s-preserved : goal.loop-s-preserved
loop-s-preserved c =
    label_past c.args.x.now c.args.all.now c.loop-s.s-index c.s-item.result c.loop-s-test.true c.s-item.is c.read_head.result c.is_label.result c.read_head.ensures c.args.label
    c.is_label.ensures c.if-is_label.false c.loop-s.invariant

pub returns : goal.returns
returns c = label_none c.args.x.now c.args.all.now c.loop-s.s-index c.loop-s-test.false c.args.label _ c.loop-s.invariant
