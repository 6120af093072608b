use Rattle.std.proofs.Common.{◌∙◌, sym}
use Rattle.cf_core_run.proofs.LabelLaws.{case-found, case-past, case-none}
use Rattle.cf_core_run.proofs.switch.has_case.Goals as goal

pub returns-then-is_case : goal.returns-then-is_case
returns-then-is_case c = λ T p. case-found T p c.args.number c.args.all.now c.loop-s.s-index c.s-item.result c.loop-s-test.true c.s-item.is (sym (c.is_case.ensures T p) ∙ c.if-is_case.true) (c.loop-s.invariant T p)

pub loop-s-preserved : goal.loop-s-preserved
loop-s-preserved c = λ T p. case-past T p c.args.number c.args.all.now c.loop-s.s-index c.s-item.result c.loop-s-test.true c.s-item.is (sym (c.is_case.ensures T p) ∙ c.if-is_case.false) (c.loop-s.invariant T p)

pub returns : goal.returns
returns c = λ T p. case-none T p c.args.number c.args.all.now c.loop-s.s-index c.loop-s-test.false (c.loop-s.invariant T p)
