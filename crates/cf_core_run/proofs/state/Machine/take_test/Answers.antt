use Rattle.cf_core_run.specs.Nearer.{behind_test}
use Rattle.std.proofs.Common.{ap, arith}
use Rattle.cf_core.specs.Calls.{Falls, turn}
use Rattle.cf_core.specs.Run.{gives}
use Rattle.cf_core_run.specs.declared.mark.TestMark.{TestMark}
use Rattle.cf_core_run.specs.Going.{again, loop_of, go_test}
use Rattle.cf_core_objects.specs.Store.{state_of, value_of}
use Rattle.cf_core_run.proofs.Laws.{flow-as}
use Rattle.cf_core_run.specs.declared.mark.TestMark.TheVariants as test
use Rattle.cf_core_run.proofs.state.Machine.take_test.Goals as goal

pub returns-in-Statement-clause-comes : goal.returns-in-Statement-clause-comes
returns-in-Statement-clause-comes c = λ p. flow-as p c.args.self.now (λ T. go_test T p c.args.self.now.fuel c.args.mark (value_of c.args.v)) (λ T. gives Falls) c.ends.result c.ends.new.self (c.ends.ensures.comes p)
    (λ T w. ap (λ (x : TestMark). go_test T p c.args.self.now.fuel x (value_of c.args.v) (state_of T c.args.self.now.entered c.args.self.now.objects) w) c.in-Statement.is)

pub returns-in-If-clause-comes : goal.returns-in-If-clause-comes
returns-in-If-clause-comes c = λ p. flow-as p c.args.self.now (λ T. go_test T p c.args.self.now.fuel c.args.mark (value_of c.args.v)) (λ T. go_test T p c.args.self.now.fuel (test.If c.in-If.yes c.in-If.no) (value_of c.args.v)) c.choose.result c.choose.new.self (c.choose.ensures.comes p)
    (λ T w. ap (λ (x : TestMark). go_test T p c.args.self.now.fuel x (value_of c.args.v) (state_of T c.args.self.now.entered c.args.self.now.objects) w) c.in-If.is)

pub returns-in-First-clause-comes : goal.returns-in-First-clause-comes
returns-in-First-clause-comes c = λ p. flow-as p c.args.self.now (λ T. go_test T p c.args.self.now.fuel c.args.mark (value_of c.args.v)) (λ T. go_test T p c.args.self.now.fuel (test.First c.in-First.repeated) (value_of c.args.v)) c.tested_first.result c.tested_first.new.self (c.tested_first.ensures.comes p)
    (λ T w. ap (λ (x : TestMark). go_test T p c.args.self.now.fuel x (value_of c.args.v) (state_of T c.args.self.now.entered c.args.self.now.objects) w) c.in-First.is)

pub returns-in-Last-clause-comes : goal.returns-in-Last-clause-comes
returns-in-Last-clause-comes c = λ p. flow-as p c.args.self.now (λ T. go_test T p c.args.self.now.fuel c.args.mark (value_of c.args.v)) (λ T. go_test T p c.args.self.now.fuel (test.Last c.in-Last.repeated) (value_of c.args.v)) c.tested_last.result c.tested_last.new.self (c.tested_last.ensures.comes p)
    (λ T w. ap (λ (x : TestMark). go_test T p c.args.self.now.fuel x (value_of c.args.v) (state_of T c.args.self.now.entered c.args.self.now.objects) w) c.in-Last.is)

pub returns-in-Stepped-clause-comes : goal.returns-in-Stepped-clause-comes
returns-in-Stepped-clause-comes c = λ p. flow-as p c.args.self.now (λ T. go_test T p c.args.self.now.fuel c.args.mark (value_of c.args.v)) (λ T. again T p c.args.self.now.fuel (turn (loop_of T p c.in-Stepped.repeated))) c.repeat_next.result c.repeat_next.new.self (c.repeat_next.ensures.comes p)
    (λ T w. ap (λ (x : TestMark). go_test T p c.args.self.now.fuel x (value_of c.args.v) (state_of T c.args.self.now.entered c.args.self.now.objects) w) c.in-Stepped.is)

pub returns-in-Declared-clause-comes : goal.returns-in-Declared-clause-comes
returns-in-Declared-clause-comes c = λ p. flow-as p c.args.self.now (λ T. go_test T p c.args.self.now.fuel c.args.mark (value_of c.args.v)) (λ T. go_test T p c.args.self.now.fuel (test.Declared c.in-Declared.object) (value_of c.args.v)) c.declared.result c.declared.new.self (c.declared.ensures.comes p)
    (λ T w. ap (λ (x : TestMark). go_test T p c.args.self.now.fuel x (value_of c.args.v) (state_of T c.args.self.now.entered c.args.self.now.objects) w) c.in-Declared.is)

pub returns-in-Result-clause-comes : goal.returns-in-Result-clause-comes
returns-in-Result-clause-comes c = λ p. flow-as p c.args.self.now (λ T. go_test T p c.args.self.now.fuel c.args.mark (value_of c.args.v)) (λ T. go_test T p c.args.self.now.fuel (test.Result) (value_of c.args.v)) c.ends-in-Result.result c.ends-in-Result.new.self (c.ends-in-Result.ensures.comes p)
    (λ T w. ap (λ (x : TestMark). go_test T p c.args.self.now.fuel x (value_of c.args.v) (state_of T c.args.self.now.entered c.args.self.now.objects) w) c.in-Result.is)

pub returns-in-Switch-clause-comes : goal.returns-in-Switch-clause-comes
returns-in-Switch-clause-comes c = λ p. flow-as p c.args.self.now (λ T. go_test T p c.args.self.now.fuel c.args.mark (value_of c.args.v)) (λ T. go_test T p c.args.self.now.fuel (test.Switch c.in-Switch.all) (value_of c.args.v)) c.switch.result c.switch.new.self (c.switch.ensures.comes p)
    (λ T w. ap (λ (x : TestMark). go_test T p c.args.self.now.fuel x (value_of c.args.v) (state_of T c.args.self.now.entered c.args.self.now.objects) w) c.in-Switch.is)

pub returns-in-Statement-clause-within : goal.returns-in-Statement-clause-within
returns-in-Statement-clause-within c = λ p. omega (arith, c.ends.ensures.within p, ap behind_test c.in-Statement.is)

pub returns-in-If-clause-within : goal.returns-in-If-clause-within
returns-in-If-clause-within c = λ p. omega (arith, c.choose.ensures.within p, ap behind_test c.in-If.is)

pub returns-in-First-clause-within : goal.returns-in-First-clause-within
returns-in-First-clause-within c = λ p. omega (arith, c.tested_first.ensures.within p, ap behind_test c.in-First.is)

pub returns-in-Last-clause-within : goal.returns-in-Last-clause-within
returns-in-Last-clause-within c = λ p. omega (arith, c.tested_last.ensures.within p, ap behind_test c.in-Last.is)

pub returns-in-Stepped-clause-within : goal.returns-in-Stepped-clause-within
returns-in-Stepped-clause-within c = λ p. omega (arith, c.repeat_next.ensures.within p, ap behind_test c.in-Stepped.is)

pub returns-in-Declared-clause-within : goal.returns-in-Declared-clause-within
returns-in-Declared-clause-within c = λ p. omega (arith, c.declared.ensures.within p, ap behind_test c.in-Declared.is)

pub returns-in-Result-clause-within : goal.returns-in-Result-clause-within
returns-in-Result-clause-within c = λ p. omega (arith, c.ends-in-Result.ensures.within p, ap behind_test c.in-Result.is)

pub returns-in-Switch-clause-within : goal.returns-in-Switch-clause-within
returns-in-Switch-clause-within c = λ p. omega (arith, c.switch.ensures.within p, ap behind_test c.in-Switch.is)
