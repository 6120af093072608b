use Rattle.std.proofs.Common.{◌∙◌, ℤ, ap, sym, rules, FitsSigned, w64, to_z-of_z}
use Rattle.cf_core_objects.specs.Store.{state_of, value_of}
use Rattle.cf_core_objects.specs.declared.answer.Value.{Value as Given}
use Rattle.cf_core_objects.specs.declared.answer.Stop.TheVariants as stop
use Rattle.cf_core_run.specs.Going.{cores, go_switch, selected}
use Rattle.cf_core_run.proofs.Laws.{flow-as, flow-stopped}
use Rattle.cf_core_run.proofs.state.Machine.switch.Goals as goal

pub returns-in-Number-clause-comes : goal.returns-in-Number-clause-comes
returns-in-Number-clause-comes c = λ p. flow-as p c.args.self.now (λ T. go_switch T p c.args.self.now.fuel (cores T p c.args.all.now) (value_of c.args.v)) (λ T. selected T p c.args.self.now.fuel (cores T p c.args.all.now) c.new.result) c.select.result c.select.new.self (c.select.ensures.comes p)
    (λ T w. ap (λ (v : Given). go_switch T p c.args.self.now.fuel (cores T p c.args.all.now) (value_of v) (state_of T c.args.self.now.entered c.args.self.now.objects) w) c.in-Number.is
    ∙ ap (λ (z : ℤ). selected T p c.args.self.now.fuel (cores T p c.args.all.now) z (state_of T c.args.self.now.entered c.args.self.now.objects) w) (sym (c.new.ensures ∙ to_z-of_z {w = w64} {z = c.in-Number.number} (let fits : FitsSigned w64 c.in-Number.number = search rules in fits))))

pub returns-in-Nothing-clause-comes : goal.returns-in-Nothing-clause-comes
returns-in-Nothing-clause-comes c = λ p. flow-stopped p c.args.self.now (λ T. go_switch T p c.args.self.now.fuel (cores T p c.args.all.now) (value_of c.args.v)) stop.Malformed (λ T w. ap (λ (v : Given). go_switch T p c.args.self.now.fuel (cores T p c.args.all.now) (value_of v) (state_of T c.args.self.now.entered c.args.self.now.objects) w) c.in-Nothing.is)

pub returns-in-Missing-clause-comes : goal.returns-in-Missing-clause-comes
returns-in-Missing-clause-comes c = λ p. flow-stopped p c.args.self.now (λ T. go_switch T p c.args.self.now.fuel (cores T p c.args.all.now) (value_of c.args.v)) stop.Malformed (λ T w. ap (λ (v : Given). go_switch T p c.args.self.now.fuel (cores T p c.args.all.now) (value_of v) (state_of T c.args.self.now.entered c.args.self.now.objects) w) c.in-Missing.is)

pub returns-in-Built-clause-comes : goal.returns-in-Built-clause-comes
returns-in-Built-clause-comes c = λ p. flow-stopped p c.args.self.now (λ T. go_switch T p c.args.self.now.fuel (cores T p c.args.all.now) (value_of c.args.v)) stop.Malformed (λ T w. ap (λ (v : Given). go_switch T p c.args.self.now.fuel (cores T p c.args.all.now) (value_of v) (state_of T c.args.self.now.entered c.args.self.now.objects) w) c.in-Built.is)

pub returns-in-Null-clause-comes : goal.returns-in-Null-clause-comes
returns-in-Null-clause-comes c = λ p. flow-stopped p c.args.self.now (λ T. go_switch T p c.args.self.now.fuel (cores T p c.args.all.now) (value_of c.args.v)) stop.Malformed (λ T w. ap (λ (v : Given). go_switch T p c.args.self.now.fuel (cores T p c.args.all.now) (value_of v) (state_of T c.args.self.now.entered c.args.self.now.objects) w) c.in-Null.is)

pub returns-in-At-clause-comes : goal.returns-in-At-clause-comes
returns-in-At-clause-comes c = λ p. flow-stopped p c.args.self.now (λ T. go_switch T p c.args.self.now.fuel (cores T p c.args.all.now) (value_of c.args.v)) stop.Malformed (λ T w. ap (λ (v : Given). go_switch T p c.args.self.now.fuel (cores T p c.args.all.now) (value_of v) (state_of T c.args.self.now.entered c.args.self.now.objects) w) c.in-At.is)

pub returns-in-Code-clause-comes : goal.returns-in-Code-clause-comes
returns-in-Code-clause-comes c = λ p. flow-stopped p c.args.self.now (λ T. go_switch T p c.args.self.now.fuel (cores T p c.args.all.now) (value_of c.args.v)) stop.Malformed (λ T w. ap (λ (v : Given). go_switch T p c.args.self.now.fuel (cores T p c.args.all.now) (value_of v) (state_of T c.args.self.now.entered c.args.self.now.objects) w) c.in-Code.is)
