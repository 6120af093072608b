use Rattle.std.proofs.Common.{arith}
use Rattle.cf_core_objects.specs.Store.{state_of, value_of}
use Rattle.cf_core_objects.specs.declared.answer.Stop.TheVariants as stop
use Rattle.cf_core_run.specs.Going.{passing, called}
use Rattle.cf_core_run.proofs.Laws.{nil, value-as, value-stopped}
use Rattle.cf_core_run.proofs.CallLaws.{passing-end, passing-many}
use Rattle.cf_core_run.proofs.state.Machine.pass_none.Goals as goal

pub returns-in-None-clause-comes : goal.returns-in-None-clause-comes
returns-in-None-clause-comes c = value-as c.args.program.now c.args.self.now (λ T. passing T c.args.program.now c.args.self.now.fuel c.args.calling) (λ T. called T c.args.program.now c.args.self.now.fuel (value_of c.args.calling.callee) c.args.calling.made.items) c.call_with.result c.call_with.new.self c.call_with.ensures.comes
    (λ T s w. passing-end T c.args.program.now c.args.self.now.fuel c.args.calling s w c.requires (nil c.args.calling.rest.now c.in-None.ensures.cases))

pub returns-clause-comes : goal.returns-clause-comes
returns-clause-comes c = value-stopped c.args.program.now c.args.self.now (λ T. passing T c.args.program.now c.args.self.now.fuel c.args.calling) stop.Malformed
    (λ T w. passing-many T c.args.program.now c.args.self.now.fuel c.args.calling _ _ (state_of T c.args.self.now.entered c.args.self.now.objects) w c.requires c.in-Some.ensures.cases.0)

pub returns-in-None-clause-within : goal.returns-in-None-clause-within
returns-in-None-clause-within c = λ p. omega (arith, c.call_with.ensures.within p)
