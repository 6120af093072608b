use Rattle.cf_lowerable_open.proofs.Scans.{end_found, end_none, end_past}
use Rattle.cf_lowerable_open.proofs.flags.ended_by.Goals as goal

pub returns-then-is_end : goal.returns-then-is_end
returns-then-is_end c =
    end_found c.args.x.now c.args.rest.now c.loop-s.s-index c.s-item.result c.loop-s-test.true c.s-item.is c.read_head-head.result c.is_end.result c.read_head-head.ensures c.args.register
    c.ended.result _ c.is_end.ensures c.if-is_end.true c.ended.ensures c.loop-s.invariant

pub loop-s-preserved : goal.loop-s-preserved
loop-s-preserved c =
    end_past c.args.x.now c.args.rest.now c.loop-s.s-index c.s-item.result c.loop-s-test.true c.s-item.is c.read_head-head.result c.is_end.result c.read_head-head.ensures c.args.register
    _ c.is_end.ensures c.if-is_end.false c.loop-s.invariant

pub returns : goal.returns
returns c = end_none c.args.x.now c.args.rest.now c.loop-s.s-index c.loop-s-test.false c.args.register _ c.loop-s.invariant
