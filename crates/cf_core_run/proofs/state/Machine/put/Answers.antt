use Rattle.std.proofs.Common.{ap}
use Rattle.cf_core.specs.Calls.{root}
use Rattle.cf_core_objects.specs.Store.{state_of, value_of}
use Rattle.cf_core_run.proofs.Laws.{value-stopped}
use Rattle.cf_core_objects.specs.declared.answer.Value.{Value as Given}
use Rattle.cf_core_objects.specs.declared.answer.Stop.TheVariants as stop
use Rattle.cf_core.specs.Calls as calls
use Rattle.cf_core_run.proofs.state.Machine.put.Goals as goal

pub returns-in-Nothing-clause-comes : goal.returns-in-Nothing-clause-comes
returns-in-Nothing-clause-comes c = λ p. value-stopped p c.args.self.now (λ T. calls.put (value_of c.args.v)) stop.Malformed (λ T w. ap (λ (v : Given). calls.put (value_of v) (state_of T c.args.self.now.entered c.args.self.now.objects) w) c.in-Nothing.is)

pub returns-in-Missing-clause-comes : goal.returns-in-Missing-clause-comes
returns-in-Missing-clause-comes c = λ p. value-stopped p c.args.self.now (λ T. calls.put (value_of c.args.v)) stop.Malformed (λ T w. ap (λ (v : Given). calls.put (value_of v) (state_of T c.args.self.now.entered c.args.self.now.objects) w) c.in-Missing.is)

pub returns-in-Built-clause-comes : goal.returns-in-Built-clause-comes
returns-in-Built-clause-comes c = λ p. value-stopped p c.args.self.now (λ T. calls.put (value_of c.args.v)) stop.Malformed (λ T w. ap (λ (v : Given). calls.put (value_of v) (state_of T c.args.self.now.entered c.args.self.now.objects) w) c.in-Built.is)

pub returns-in-Null-clause-comes : goal.returns-in-Null-clause-comes
returns-in-Null-clause-comes c = λ p. value-stopped p c.args.self.now (λ T. calls.put (value_of c.args.v)) stop.Malformed (λ T w. ap (λ (v : Given). calls.put (value_of v) (state_of T c.args.self.now.entered c.args.self.now.objects) w) c.in-Null.is)

pub returns-in-At-clause-comes : goal.returns-in-At-clause-comes
returns-in-At-clause-comes c = λ p. value-stopped p c.args.self.now (λ T. calls.put (value_of c.args.v)) stop.Malformed (λ T w. ap (λ (v : Given). calls.put (value_of v) (state_of T c.args.self.now.entered c.args.self.now.objects) w) c.in-At.is)

pub returns-in-Code-clause-comes : goal.returns-in-Code-clause-comes
returns-in-Code-clause-comes c = λ p. value-stopped p c.args.self.now (λ T. calls.put (value_of c.args.v)) stop.Malformed (λ T w. ap (λ (v : Given). calls.put (value_of v) (state_of T c.args.self.now.entered c.args.self.now.objects) w) c.in-Code.is)
