use Rattle.cf_core_run.proofs.NearLaws.{pushed-left}
use Rattle.std.proofs.Common.{◌≡◌, ◌∙◌, ◌++◌, ◌∷◌, [], List, ap, reverse, rules, arith}
use Rattle.cf_base.specs.World.{Went}
use Rattle.cf_core.specs.Run.{Gives, gives}
use Rattle.cf_core_run.specs.declared.mark.Mark.{Mark}
use Rattle.cf_core_run.specs.declared.mark.Mark.TheVariants as mark
use Rattle.cf_core_run.specs.Going.{on_flow, finish, from_value, from_flow, world_of, go_flow, go_back, flow_of}
use Rattle.cf_core_objects.specs.Store.{state_of}
use Rattle.cf_core_run.proofs.Laws.{comes-by}
use Rattle.cf_core_run.proofs.Goes.{flow-pops}
use Rattle.cf_core_run.proofs.state.Machine.leave.Goals as goal

pub returns-in-None-clause-comes : goal.returns-in-None-clause-comes
returns-in-None-clause-comes c = λ p. record {
  same = λ T o. ap (λ (ms : List Mark). finish T p o (on_flow T p (reverse ms) (Went (Gives (flow_of c.args.flow) (state_of T c.args.self.now.entered c.args.self.now.objects)) (world_of c.args.self.now.ticks o)))) (let h : c.args.self.now.stack.items ≡ [] = search rules in h);
}

pub returns-in-Some-Flow-clause-comes : goal.returns-in-Some-Flow-clause-comes
returns-in-Some-Flow-clause-comes c = λ p. comes-by p (λ T o. from_flow T p c.args.self.now (gives (flow_of c.args.flow)) o)
    (λ T o. from_flow T p (record c.args.self.now { stack = c.pop.new.self; fuel = c.in-Some-Flow.fuel }) (go_flow T p c.in-Some-Flow.fuel c.in-Some-Flow.mark (flow_of c.args.flow)) o) c.leave_part.result c.leave_part.new.self
    (λ T o. flow-pops T p c.args.self.now c.pop.new.self.items (mark.Flow c.in-Some-Flow.fuel c.in-Some-Flow.mark) (flow_of c.args.flow) o
    (c.in-Some-Flow.ensures.items ∙ ap (λ (x : Mark). c.pop.new.self.items ++ x ∷ []) c.in-Some-Flow.field-0-is)) (c.leave_part.ensures.comes p)

pub returns-in-Some-Back-clause-comes : goal.returns-in-Some-Back-clause-comes
returns-in-Some-Back-clause-comes c = λ p. comes-by p (λ T o. from_flow T p c.args.self.now (gives (flow_of c.args.flow)) o)
    (λ T o. from_value T p (record c.args.self.now { stack = c.pop.new.self; fuel = c.in-Some-Back.fuel }) (go_back T p c.in-Some-Back.fuel c.in-Some-Back.shape c.in-Some-Back.entered (flow_of c.args.flow)) o) c.go_back.result c.go_back.new.self
    (λ T o. flow-pops T p c.args.self.now c.pop.new.self.items (mark.Back c.in-Some-Back.fuel c.in-Some-Back.shape c.in-Some-Back.entered) (flow_of c.args.flow) o
    (c.in-Some-Back.ensures.items ∙ ap (λ (x : Mark). c.pop.new.self.items ++ x ∷ []) c.in-Some-Back.field-0-is)) (c.go_back.ensures.comes p)

pub returns-in-Some-Value-clause-comes : goal.returns-in-Some-Value-clause-comes
returns-in-Some-Value-clause-comes c = λ p. record {
  same = λ T o. flow-pops T p c.args.self.now c.pop.new.self.items (mark.Value c.in-Some-Value.fuel c.in-Some-Value.mark) (flow_of c.args.flow) o
      (c.in-Some-Value.ensures.items ∙ ap (λ (x : Mark). c.pop.new.self.items ++ x ∷ []) c.in-Some-Value.field-0-is);
}

pub returns-in-Some-Test-clause-comes : goal.returns-in-Some-Test-clause-comes
returns-in-Some-Test-clause-comes c = λ p. record {
  same = λ T o. flow-pops T p c.args.self.now c.pop.new.self.items (mark.Test c.in-Some-Test.fuel c.in-Some-Test.mark) (flow_of c.args.flow) o
      (c.in-Some-Test.ensures.items ∙ ap (λ (x : Mark). c.pop.new.self.items ++ x ∷ []) c.in-Some-Test.field-0-is);
}

pub returns-in-Some-Flow-clause-within : goal.returns-in-Some-Flow-clause-within
returns-in-Some-Flow-clause-within c = λ p. omega (arith, c.leave_part.ensures.within p, pushed-left c.pop.new.self.items c.args.self.now.stack.items (mark.Flow c.in-Some-Flow.fuel c.in-Some-Flow.mark) (c.in-Some-Flow.ensures.items ∙ ap (λ (x : Mark). c.pop.new.self.items ++ x ∷ []) c.in-Some-Flow.field-0-is))

pub returns-in-Some-Back-clause-within : goal.returns-in-Some-Back-clause-within
returns-in-Some-Back-clause-within c = λ p. omega (arith, c.go_back.ensures.within p, pushed-left c.pop.new.self.items c.args.self.now.stack.items (mark.Back c.in-Some-Back.fuel c.in-Some-Back.shape c.in-Some-Back.entered) (c.in-Some-Back.ensures.items ∙ ap (λ (x : Mark). c.pop.new.self.items ++ x ∷ []) c.in-Some-Back.field-0-is))
