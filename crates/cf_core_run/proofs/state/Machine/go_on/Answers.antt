use Rattle.std.proofs.Common.{◌≡◌, refl, sym, subst, arith}
use Rattle.cf_core.specs.Run.{gives}
use Rattle.cf_core.specs.Statements.{falling}
use Rattle.cf_core_run.specs.declared.mark.Flow.{Flow as Way}
use Rattle.cf_core_run.specs.Going.{performed_all, cores, flow_of}
use Rattle.cf_core_objects.specs.Store.{state_of}
use Rattle.cf_core_run.proofs.Laws.{flow-as}
use Rattle.cf_core_run.proofs.state.Machine.go_on.Goals as goal

pub returns-in-Breaks-clause-comes : goal.returns-in-Breaks-clause-comes
returns-in-Breaks-clause-comes c = λ p. flow-as p c.args.self.now (λ T. falling (performed_all T p c.args.self.now.fuel (cores T p c.args.rest.now)) (flow_of c.args.flow)) (λ T. gives (flow_of c.args.flow)) c.ends.result c.ends.new.self (c.ends.ensures.comes p)
    (λ T w. let P : Way → Type 0 = λ f. falling (performed_all T p c.args.self.now.fuel (cores T p c.args.rest.now)) (flow_of f) (state_of T c.args.self.now.entered c.args.self.now.objects) w ≡ gives (flow_of f) (state_of T c.args.self.now.entered c.args.self.now.objects) w in subst P (sym c.in-Breaks.is) refl)

pub returns-in-Continues-clause-comes : goal.returns-in-Continues-clause-comes
returns-in-Continues-clause-comes c = λ p. flow-as p c.args.self.now (λ T. falling (performed_all T p c.args.self.now.fuel (cores T p c.args.rest.now)) (flow_of c.args.flow)) (λ T. gives (flow_of c.args.flow)) c.ends-in-Continues.result c.ends-in-Continues.new.self (c.ends-in-Continues.ensures.comes p)
    (λ T w. let P : Way → Type 0 = λ f. falling (performed_all T p c.args.self.now.fuel (cores T p c.args.rest.now)) (flow_of f) (state_of T c.args.self.now.entered c.args.self.now.objects) w ≡ gives (flow_of f) (state_of T c.args.self.now.entered c.args.self.now.objects) w in subst P (sym c.in-Continues.is) refl)

pub returns-in-Returns-clause-comes : goal.returns-in-Returns-clause-comes
returns-in-Returns-clause-comes c = λ p. flow-as p c.args.self.now (λ T. falling (performed_all T p c.args.self.now.fuel (cores T p c.args.rest.now)) (flow_of c.args.flow)) (λ T. gives (flow_of c.args.flow)) c.ends-in-Returns.result c.ends-in-Returns.new.self (c.ends-in-Returns.ensures.comes p)
    (λ T w. let P : Way → Type 0 = λ f. falling (performed_all T p c.args.self.now.fuel (cores T p c.args.rest.now)) (flow_of f) (state_of T c.args.self.now.entered c.args.self.now.objects) w ≡ gives (flow_of f) (state_of T c.args.self.now.entered c.args.self.now.objects) w in subst P (sym c.in-Returns.is) refl)

pub returns-in-Breaks-clause-within : goal.returns-in-Breaks-clause-within
returns-in-Breaks-clause-within c = λ p. omega (arith, c.ends.ensures.within p)

pub returns-in-Continues-clause-within : goal.returns-in-Continues-clause-within
returns-in-Continues-clause-within c = λ p. omega (arith, c.ends-in-Continues.ensures.within p)

pub returns-in-Returns-clause-within : goal.returns-in-Returns-clause-within
returns-in-Returns-clause-within c = λ p. omega (arith, c.ends-in-Returns.ensures.within p)
