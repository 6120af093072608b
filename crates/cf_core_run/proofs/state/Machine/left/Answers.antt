use Rattle.std.proofs.Common.{◌≡◌, refl, sym, subst}
use Rattle.cf_core.specs.Calls.{Falls}
use Rattle.cf_core.specs.Run.{gives}
use Rattle.cf_core.specs.Statements.{leaving}
use Rattle.cf_core_run.specs.declared.mark.Flow.{Flow as Way}
use Rattle.cf_core_run.specs.Going.{flow_of}
use Rattle.cf_core_objects.specs.Store.{state_of}
use Rattle.cf_core_run.proofs.Laws.{flow-as}
use Rattle.cf_core_run.proofs.state.Machine.left.Goals as goal

pub returns-in-Breaks-clause-comes : goal.returns-in-Breaks-clause-comes
returns-in-Breaks-clause-comes c = λ p. flow-as p c.args.self.now (λ T. leaving (flow_of c.args.flow)) (λ T. gives (Falls)) c.ends.result c.ends.new.self (c.ends.ensures.comes p)
    (λ T w. let P : Way → Type 0 = λ f. leaving (flow_of f) (state_of T c.args.self.now.entered c.args.self.now.objects) w ≡ gives (Falls) (state_of T c.args.self.now.entered c.args.self.now.objects) w in subst P (sym c.in-Breaks.is) refl)

pub returns-in-Falls-clause-comes : goal.returns-in-Falls-clause-comes
returns-in-Falls-clause-comes c = λ p. flow-as p c.args.self.now (λ T. leaving (flow_of c.args.flow)) (λ T. gives (flow_of c.args.flow)) c.ends-in-Falls.result c.ends-in-Falls.new.self (c.ends-in-Falls.ensures.comes p)
    (λ T w. let P : Way → Type 0 = λ f. leaving (flow_of f) (state_of T c.args.self.now.entered c.args.self.now.objects) w ≡ gives (flow_of f) (state_of T c.args.self.now.entered c.args.self.now.objects) w in subst P (sym c.in-Falls.is) refl)

pub returns-in-Continues-clause-comes : goal.returns-in-Continues-clause-comes
returns-in-Continues-clause-comes c = λ p. flow-as p c.args.self.now (λ T. leaving (flow_of c.args.flow)) (λ T. gives (flow_of c.args.flow)) c.ends-in-Continues.result c.ends-in-Continues.new.self (c.ends-in-Continues.ensures.comes p)
    (λ T w. let P : Way → Type 0 = λ f. leaving (flow_of f) (state_of T c.args.self.now.entered c.args.self.now.objects) w ≡ gives (flow_of f) (state_of T c.args.self.now.entered c.args.self.now.objects) w in subst P (sym c.in-Continues.is) refl)

pub returns-in-Returns-clause-comes : goal.returns-in-Returns-clause-comes
returns-in-Returns-clause-comes c = λ p. flow-as p c.args.self.now (λ T. leaving (flow_of c.args.flow)) (λ T. gives (flow_of c.args.flow)) c.ends-in-Returns.result c.ends-in-Returns.new.self (c.ends-in-Returns.ensures.comes p)
    (λ T w. let P : Way → Type 0 = λ f. leaving (flow_of f) (state_of T c.args.self.now.entered c.args.self.now.objects) w ≡ gives (flow_of f) (state_of T c.args.self.now.entered c.args.self.now.objects) w in subst P (sym c.in-Returns.is) refl)
