use Rattle.cf_lowerable_open.proofs.Scans.{head_more, heads_all}
use Rattle.cf_lowerable_open.proofs.labels.all_heads.Goals as goal

pub loop-s-preserved : goal.loop-s-preserved
loop-s-preserved c =
    head_more c.args.x.now c.args.all.now c.loop-s.s-index c.s-item.result c.loop-s-test.true c.s-item.is c.read_head-head.result _ c.read_head-head.ensures c.loop-s.made.items
    c.push.new.self.items c.in_ok-push.ensures.items c.loop-s.invariant

pub returns : goal.returns
returns c = heads_all c.args.x.now c.args.all.now c.loop-s.s-index c.loop-s-test.false _ c.loop-s.made.items c.loop-s.invariant
