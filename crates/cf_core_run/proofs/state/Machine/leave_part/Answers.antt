use Rattle.cf_core_run.specs.Nearer.{behind_flow}
use Rattle.std.proofs.Common.{ap, arith}
use Rattle.cf_core_run.specs.declared.mark.FlowMark.{FlowMark}
use Rattle.cf_core_run.specs.Going.{go_flow, flow_of}
use Rattle.cf_core_objects.specs.Store.{state_of}
use Rattle.cf_core_run.proofs.Laws.{flow-as}
use Rattle.cf_core_run.specs.declared.mark.FlowMark.TheVariants as part
use Rattle.cf_core_run.proofs.state.Machine.leave_part.Goals as goal

pub returns-in-Rest-clause-comes : goal.returns-in-Rest-clause-comes
returns-in-Rest-clause-comes c = λ p. flow-as p c.args.self.now (λ T. go_flow T p c.args.self.now.fuel c.args.mark (flow_of c.args.flow)) (λ T. go_flow T p c.args.self.now.fuel (part.Rest c.in-Rest.rest) (flow_of c.args.flow)) c.go_on.result c.go_on.new.self (c.go_on.ensures.comes p)
    (λ T w. ap (λ (x : FlowMark). go_flow T p c.args.self.now.fuel x (flow_of c.args.flow) (state_of T c.args.self.now.entered c.args.self.now.objects) w) c.in-Rest.is)

pub returns-in-Scope-clause-comes : goal.returns-in-Scope-clause-comes
returns-in-Scope-clause-comes c = λ p. flow-as p c.args.self.now (λ T. go_flow T p c.args.self.now.fuel c.args.mark (flow_of c.args.flow)) (λ T. go_flow T p c.args.self.now.fuel (part.Scope c.in-Scope.around) (flow_of c.args.flow)) c.close_scope.result c.close_scope.new.self (c.close_scope.ensures.comes p)
    (λ T w. ap (λ (x : FlowMark). go_flow T p c.args.self.now.fuel x (flow_of c.args.flow) (state_of T c.args.self.now.entered c.args.self.now.objects) w) c.in-Scope.is)

pub returns-in-Turn-clause-comes : goal.returns-in-Turn-clause-comes
returns-in-Turn-clause-comes c = λ p. flow-as p c.args.self.now (λ T. go_flow T p c.args.self.now.fuel c.args.mark (flow_of c.args.flow)) (λ T. go_flow T p c.args.self.now.fuel (part.Turn c.in-Turn.repeated) (flow_of c.args.flow)) c.turned.result c.turned.new.self (c.turned.ensures.comes p)
    (λ T w. ap (λ (x : FlowMark). go_flow T p c.args.self.now.fuel x (flow_of c.args.flow) (state_of T c.args.self.now.entered c.args.self.now.objects) w) c.in-Turn.is)

pub returns-in-Leaving-clause-comes : goal.returns-in-Leaving-clause-comes
returns-in-Leaving-clause-comes c = λ p. flow-as p c.args.self.now (λ T. go_flow T p c.args.self.now.fuel c.args.mark (flow_of c.args.flow)) (λ T. go_flow T p c.args.self.now.fuel (part.Leaving) (flow_of c.args.flow)) c.left.result c.left.new.self (c.left.ensures.comes p)
    (λ T w. ap (λ (x : FlowMark). go_flow T p c.args.self.now.fuel x (flow_of c.args.flow) (state_of T c.args.self.now.entered c.args.self.now.objects) w) c.in-Leaving.is)

pub returns-in-Parameters-clause-comes : goal.returns-in-Parameters-clause-comes
returns-in-Parameters-clause-comes c = λ p. flow-as p c.args.self.now (λ T. go_flow T p c.args.self.now.fuel c.args.mark (flow_of c.args.flow)) (λ T. go_flow T p c.args.self.now.fuel (part.Parameters c.in-Parameters.made) (flow_of c.args.flow)) c.end_parameters.result c.end_parameters.new.self (c.end_parameters.ensures.comes p)
    (λ T w. ap (λ (x : FlowMark). go_flow T p c.args.self.now.fuel x (flow_of c.args.flow) (state_of T c.args.self.now.entered c.args.self.now.objects) w) c.in-Parameters.is)

pub returns-in-Rest-clause-within : goal.returns-in-Rest-clause-within
returns-in-Rest-clause-within c = λ p. omega (arith, c.go_on.ensures.within p, ap behind_flow c.in-Rest.is)

pub returns-in-Scope-clause-within : goal.returns-in-Scope-clause-within
returns-in-Scope-clause-within c = λ p. omega (arith, c.close_scope.ensures.within p, ap behind_flow c.in-Scope.is)

pub returns-in-Turn-clause-within : goal.returns-in-Turn-clause-within
returns-in-Turn-clause-within c = λ p. omega (arith, c.turned.ensures.within p, ap behind_flow c.in-Turn.is)

pub returns-in-Leaving-clause-within : goal.returns-in-Leaving-clause-within
returns-in-Leaving-clause-within c = λ p. omega (arith, c.left.ensures.within p, ap behind_flow c.in-Leaving.is)

pub returns-in-Parameters-clause-within : goal.returns-in-Parameters-clause-within
returns-in-Parameters-clause-within c = λ p. omega (arith, c.end_parameters.ensures.within p, ap behind_flow c.in-Parameters.is)
