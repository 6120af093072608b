use Rattle.cf_core_run.proofs.NearLaws.{pushed-left}
use Rattle.std.proofs.Common.{◌∙◌, ap, sym, arith}
use Rattle.cf_core_run.specs.declared.mark.FlowMark.TheVariants as part
use Rattle.cf_core_run.specs.Going.{from_flow, cores, scoped, selected, labelled}
use Rattle.cf_core_run.proofs.Laws.{comes-by}
use Rattle.cf_core_run.proofs.Goes.{flow-pushed}
use Rattle.cf_core_run.proofs.state.Machine.select.Goals as goal

pub returns-clause-comes : goal.returns-clause-comes
returns-clause-comes c = λ p. comes-by p (λ T o. from_flow T p c.args.self.now (selected T p c.args.self.now.fuel (cores T p c.args.all.now) c.args.number) o)
    (λ T o. from_flow T p c.open_scope.new.self (labelled T p c.open_scope.new.self.fuel c.args.number (cores T p c.args.all.now)) o) c.seek.result c.seek.new.self
    (λ T o. sym (flow-pushed T p c.args.self.now c.push.new.self c.args.self.now.fuel part.Leaving (scoped T p c.args.self.now.fuel (labelled T p c.args.self.now.fuel c.args.number (cores T p c.args.all.now))) o c.in_ok-push.ensures.items)
    ∙ c.in_ok-open_scope.ensures.opens.same T p (labelled T p c.args.self.now.fuel c.args.number (cores T p c.args.all.now)) o
    ∙ ap (λ k. from_flow T p c.open_scope.new.self (labelled T p k c.args.number (cores T p c.args.all.now)) o) (sym c.in_ok-open_scope.ensures.opens.fuel))
    (c.seek.ensures.comes p)

pub returns-clause-within : goal.returns-clause-within
returns-clause-within c = λ p. omega (arith, c.seek.ensures.within p, c.in_ok-open_scope.ensures.within, pushed-left _ _ _ c.in_ok-push.ensures.items)
