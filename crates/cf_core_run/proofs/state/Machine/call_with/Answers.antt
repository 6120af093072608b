use Rattle.std.proofs.Common.{ap}
use Rattle.cf_core_objects.specs.declared.answer.Stop.TheVariants as stop
use Rattle.cf_core_objects.specs.declared.answer.Value.{Value as Given}
use Rattle.cf_core_objects.specs.Store.{state_of, value_of}
use Rattle.cf_core_run.specs.Going.{called}
use Rattle.cf_core_run.proofs.Laws.{value-as, value-stopped}
use Rattle.cf_core_run.proofs.state.Machine.call_with.Goals as goal

pub returns-in-Code-clause-comes : goal.returns-in-Code-clause-comes
returns-in-Code-clause-comes c = value-as c.args.program.now c.args.self.now (λ T. called T c.args.program.now c.args.self.now.fuel (value_of c.args.callee) c.args.made.items) _ c.call_named.result c.call_named.new.self c.call_named.ensures.comes
    (λ T s w. ap (λ (v : Given). called T c.args.program.now c.args.self.now.fuel (value_of v) c.args.made.items s w) c.in-Code.is)

pub returns-in-Null-clause-comes : goal.returns-in-Null-clause-comes
returns-in-Null-clause-comes c = value-stopped c.args.program.now c.args.self.now (λ T. called T c.args.program.now c.args.self.now.fuel (value_of c.args.callee) c.args.made.items) (stop.Act 4)
    (λ T w. ap (λ (v : Given). called T c.args.program.now c.args.self.now.fuel (value_of v) c.args.made.items (state_of T c.args.self.now.entered c.args.self.now.objects) w) c.in-Null.is)

pub returns-in-Nothing-clause-comes : goal.returns-in-Nothing-clause-comes
returns-in-Nothing-clause-comes c = value-stopped c.args.program.now c.args.self.now (λ T. called T c.args.program.now c.args.self.now.fuel (value_of c.args.callee) c.args.made.items) stop.Malformed
    (λ T w. ap (λ (v : Given). called T c.args.program.now c.args.self.now.fuel (value_of v) c.args.made.items (state_of T c.args.self.now.entered c.args.self.now.objects) w) c.in-Nothing.is)

pub returns-in-Missing-clause-comes : goal.returns-in-Missing-clause-comes
returns-in-Missing-clause-comes c = value-stopped c.args.program.now c.args.self.now (λ T. called T c.args.program.now c.args.self.now.fuel (value_of c.args.callee) c.args.made.items) stop.Malformed
    (λ T w. ap (λ (v : Given). called T c.args.program.now c.args.self.now.fuel (value_of v) c.args.made.items (state_of T c.args.self.now.entered c.args.self.now.objects) w) c.in-Missing.is)

pub returns-in-Built-clause-comes : goal.returns-in-Built-clause-comes
returns-in-Built-clause-comes c = value-stopped c.args.program.now c.args.self.now (λ T. called T c.args.program.now c.args.self.now.fuel (value_of c.args.callee) c.args.made.items) stop.Malformed
    (λ T w. ap (λ (v : Given). called T c.args.program.now c.args.self.now.fuel (value_of v) c.args.made.items (state_of T c.args.self.now.entered c.args.self.now.objects) w) c.in-Built.is)

pub returns-in-Number-clause-comes : goal.returns-in-Number-clause-comes
returns-in-Number-clause-comes c = value-stopped c.args.program.now c.args.self.now (λ T. called T c.args.program.now c.args.self.now.fuel (value_of c.args.callee) c.args.made.items) stop.Malformed
    (λ T w. ap (λ (v : Given). called T c.args.program.now c.args.self.now.fuel (value_of v) c.args.made.items (state_of T c.args.self.now.entered c.args.self.now.objects) w) c.in-Number.is)

pub returns-in-At-clause-comes : goal.returns-in-At-clause-comes
returns-in-At-clause-comes c = value-stopped c.args.program.now c.args.self.now (λ T. called T c.args.program.now c.args.self.now.fuel (value_of c.args.callee) c.args.made.items) stop.Malformed
    (λ T w. ap (λ (v : Given). called T c.args.program.now c.args.self.now.fuel (value_of v) c.args.made.items (state_of T c.args.self.now.entered c.args.self.now.objects) w) c.in-At.is)
