use Rattle.std.proofs.Common.{◌∙◌, ℤ, Some, ap, sym, rules, FitsSigned, w64, to_z-of_z}
use Rattle.cf_base.specs.Event.{Ended}
use Rattle.cf_core.specs.Calls.{root}
use Rattle.cf_core_objects.specs.Store.{state_of, value_of}
use Rattle.cf_core_run.proofs.Laws.{value-stopped}
use Rattle.cf_core_objects.specs.declared.answer.Value.{Value as Given}
use Rattle.cf_core_objects.specs.declared.answer.Stop.TheVariants as stop
use Rattle.cf_core.specs.Calls as calls
use Rattle.std.proofs.Common.{reverse}
use Rattle.cf_core_run.specs.Going.{from_value, finish, world_of}
use Rattle.cf_core_run.proofs.Laws.{value-exits}
use Rattle.cf_core_run.proofs.state.Machine.exit.Goals as goal

pub returns-in-Number-clause-comes : goal.returns-in-Number-clause-comes
returns-in-Number-clause-comes c = λ p. record {
  same = λ T o. ap (λ (v : Given). from_value T p c.args.self.now (calls.leave_with (value_of v)) o) c.in-Number.is
      ∙ ap (finish T p o) (value-exits T p (reverse c.args.self.now.stack.items) c.in-Number.status (state_of T c.args.self.now.entered c.args.self.now.objects) (world_of c.args.self.now.ticks o))
      ∙ ap (λ (z : ℤ). Some (record { end = Ended z; trace = o.trace })) (sym (c.new.ensures ∙ to_z-of_z {w = w64} {z = c.in-Number.status} (let fits : FitsSigned w64 c.in-Number.status = search rules in fits)));
}

pub returns-in-Nothing-clause-comes : goal.returns-in-Nothing-clause-comes
returns-in-Nothing-clause-comes c = λ p. value-stopped p c.args.self.now (λ T. calls.leave_with (value_of c.args.v)) stop.Malformed (λ T w. ap (λ (v : Given). calls.leave_with (value_of v) (state_of T c.args.self.now.entered c.args.self.now.objects) w) c.in-Nothing.is)

pub returns-in-Missing-clause-comes : goal.returns-in-Missing-clause-comes
returns-in-Missing-clause-comes c = λ p. value-stopped p c.args.self.now (λ T. calls.leave_with (value_of c.args.v)) stop.Malformed (λ T w. ap (λ (v : Given). calls.leave_with (value_of v) (state_of T c.args.self.now.entered c.args.self.now.objects) w) c.in-Missing.is)

pub returns-in-Built-clause-comes : goal.returns-in-Built-clause-comes
returns-in-Built-clause-comes c = λ p. value-stopped p c.args.self.now (λ T. calls.leave_with (value_of c.args.v)) stop.Malformed (λ T w. ap (λ (v : Given). calls.leave_with (value_of v) (state_of T c.args.self.now.entered c.args.self.now.objects) w) c.in-Built.is)

pub returns-in-Null-clause-comes : goal.returns-in-Null-clause-comes
returns-in-Null-clause-comes c = λ p. value-stopped p c.args.self.now (λ T. calls.leave_with (value_of c.args.v)) stop.Malformed (λ T w. ap (λ (v : Given). calls.leave_with (value_of v) (state_of T c.args.self.now.entered c.args.self.now.objects) w) c.in-Null.is)

pub returns-in-At-clause-comes : goal.returns-in-At-clause-comes
returns-in-At-clause-comes c = λ p. value-stopped p c.args.self.now (λ T. calls.leave_with (value_of c.args.v)) stop.Malformed (λ T w. ap (λ (v : Given). calls.leave_with (value_of v) (state_of T c.args.self.now.entered c.args.self.now.objects) w) c.in-At.is)

pub returns-in-Code-clause-comes : goal.returns-in-Code-clause-comes
returns-in-Code-clause-comes c = λ p. value-stopped p c.args.self.now (λ T. calls.leave_with (value_of c.args.v)) stop.Malformed (λ T w. ap (λ (v : Given). calls.leave_with (value_of v) (state_of T c.args.self.now.entered c.args.self.now.objects) w) c.in-Code.is)
