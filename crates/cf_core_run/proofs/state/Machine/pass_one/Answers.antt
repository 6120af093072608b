use Rattle.cf_core_run.proofs.NearLaws.{weights-first}
use Rattle.cf_core_run.specs.Nearer.{weights}
use Rattle.std.proofs.Common.{refl, arith, ap, ◌∙◌}
use Rattle.cf_core_objects.specs.declared.answer.Stop.TheVariants as stop
use Rattle.cf_core_objects.specs.Store.{state_of}
use Rattle.cf_core_run.specs.Going.{passing}
use Rattle.cf_core_run.proofs.Laws.{nil, value-as, value-stopped}
use Rattle.cf_core_run.proofs.CallLaws.{passing-next, passing-few}
use Rattle.cf_core_run.specs.Going.{pass_next}
use Rattle.cf_core_run.proofs.state.Machine.pass_one.Goals as goal

pub returns-clause-comes : goal.returns-clause-comes
returns-clause-comes c = λ p. value-as p c.args.self.now (λ T. passing T p c.args.self.now.fuel c.args.calling) (λ T. pass_next T p c.args.self.now.fuel (record { callee = c.args.calling.callee; params = c.args.params; rest = c.in-Some.rest; made = c.args.calling.made }) c.args.shape c.in-Some.first.now)
    c.pass_next.result c.pass_next.new.self (c.pass_next.ensures.comes p)
    (λ T s w. passing-next T p c.args.self.now.fuel c.args.calling (record { callee = c.args.calling.callee; params = c.args.params; rest = c.in-Some.rest; made = c.args.calling.made }) c.args.shape c.in-Some.first.now s w c.requires c.in-Some.ensures.cases.0 refl refl)

pub returns-in-None-clause-comes : goal.returns-in-None-clause-comes
returns-in-None-clause-comes c = λ p. value-stopped p c.args.self.now (λ T. passing T p c.args.self.now.fuel c.args.calling) stop.Malformed
    (λ T w. passing-few T p c.args.self.now.fuel c.args.calling c.args.shape c.args.params.now (state_of T c.args.self.now.entered c.args.self.now.objects) w c.requires (nil c.args.calling.rest.now c.in-None.ensures.cases))

pub returns-clause-within : goal.returns-clause-within
returns-clause-within c = λ p. omega (arith, c.pass_next.ensures.within p, ap weights c.in-Some.ensures.cases.0 ∙ weights-first c.in-Some.first.now c.in-Some.rest.now)
