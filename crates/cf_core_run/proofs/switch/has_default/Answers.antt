use Rattle.std.proofs.Common.{◌∙◌, sym}
use Rattle.cf_core_run.proofs.LabelLaws.{default-found, default-past, default-none}
use Rattle.cf_core_run.proofs.switch.has_default.Goals as goal

pub returns-then-is_default : goal.returns-then-is_default
returns-then-is_default c = λ T p. default-found T p c.args.all.now c.loop-s.s-index c.s-item.result c.loop-s-test.true c.s-item.is (sym (c.is_default.ensures T p) ∙ c.if-is_default.true) (c.loop-s.invariant T p)

pub loop-s-preserved : goal.loop-s-preserved
loop-s-preserved c = λ T p. default-past T p c.args.all.now c.loop-s.s-index c.s-item.result c.loop-s-test.true c.s-item.is (sym (c.is_default.ensures T p) ∙ c.if-is_default.false) (c.loop-s.invariant T p)

pub returns : goal.returns
returns c = λ T p. default-none T p c.args.all.now c.loop-s.s-index c.loop-s-test.false (c.loop-s.invariant T p)
