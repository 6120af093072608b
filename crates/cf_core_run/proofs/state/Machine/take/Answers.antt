use Rattle.cf_core_run.proofs.NearLaws.{pushed-left}
use Rattle.std.proofs.Common.{◌≡◌, ◌∙◌, ◌++◌, ◌∷◌, [], List, ap, reverse, rules, arith}
use Rattle.cf_base.specs.World.{Went}
use Rattle.cf_core.specs.Run.{Gives, gives}
use Rattle.cf_core_run.specs.declared.mark.Mark.{Mark}
use Rattle.cf_core_run.specs.declared.mark.Mark.TheVariants as mark
use Rattle.cf_core_run.specs.Going.{on_value, finish, from_value, from_flow, world_of, go_value, go_test}
use Rattle.cf_core_objects.specs.Store.{state_of, value_of}
use Rattle.cf_core_run.proofs.Laws.{comes-by}
use Rattle.cf_core_run.proofs.Goes.{value-pops}
use Rattle.cf_core_run.proofs.state.Machine.take.Goals as goal

pub returns-in-None-clause-comes : goal.returns-in-None-clause-comes
returns-in-None-clause-comes c = λ p.
    let none : c.pop.new.self.items ≡ [] = search rules in
    comes-by p (λ T o. from_value T p c.args.self.now (gives (value_of c.args.v)) o) (λ T o. from_value T p (record c.args.self.now { stack = c.pop.new.self }) (gives (value_of c.args.v)) o) c.end_with.result (record c.args.self.now { stack = c.pop.new.self })
    (λ T o. ap (λ (ms : List Mark). finish T p o (on_value T p (reverse ms) (Went (Gives (value_of c.args.v) (state_of T c.args.self.now.entered c.args.self.now.objects)) (world_of c.args.self.now.ticks o)))) (let h : c.args.self.now.stack.items ≡ c.pop.new.self.items = search rules in h))
    (c.end_with.ensures.comes p (record c.args.self.now { stack = c.pop.new.self }) none)

pub returns-in-Some-Value-clause-comes : goal.returns-in-Some-Value-clause-comes
returns-in-Some-Value-clause-comes c = λ p. comes-by p (λ T o. from_value T p c.args.self.now (gives (value_of c.args.v)) o)
    (λ T o. from_value T p (record c.args.self.now { stack = c.pop.new.self; fuel = c.in-Some-Value.fuel }) (go_value T p c.in-Some-Value.fuel c.in-Some-Value.mark (value_of c.args.v)) o) c.take_value.result c.take_value.new.self
    (λ T o. value-pops T p c.args.self.now c.pop.new.self.items (mark.Value c.in-Some-Value.fuel c.in-Some-Value.mark) (value_of c.args.v) o
    (c.in-Some-Value.ensures.items ∙ ap (λ (x : Mark). c.pop.new.self.items ++ x ∷ []) c.in-Some-Value.field-0-is)) (c.take_value.ensures.comes p)

pub returns-in-Some-Test-clause-comes : goal.returns-in-Some-Test-clause-comes
returns-in-Some-Test-clause-comes c = λ p. comes-by p (λ T o. from_value T p c.args.self.now (gives (value_of c.args.v)) o)
    (λ T o. from_flow T p (record c.args.self.now { stack = c.pop.new.self; fuel = c.in-Some-Test.fuel }) (go_test T p c.in-Some-Test.fuel c.in-Some-Test.mark (value_of c.args.v)) o) c.take_test.result c.take_test.new.self
    (λ T o. value-pops T p c.args.self.now c.pop.new.self.items (mark.Test c.in-Some-Test.fuel c.in-Some-Test.mark) (value_of c.args.v) o
    (c.in-Some-Test.ensures.items ∙ ap (λ (x : Mark). c.pop.new.self.items ++ x ∷ []) c.in-Some-Test.field-0-is)) (c.take_test.ensures.comes p)

pub returns-in-Some-Flow-clause-comes : goal.returns-in-Some-Flow-clause-comes
returns-in-Some-Flow-clause-comes c = λ p. record {
  same = λ T o. value-pops T p c.args.self.now c.pop.new.self.items (mark.Flow c.in-Some-Flow.fuel c.in-Some-Flow.mark) (value_of c.args.v) o
      (c.in-Some-Flow.ensures.items ∙ ap (λ (x : Mark). c.pop.new.self.items ++ x ∷ []) c.in-Some-Flow.field-0-is);
}

pub returns-in-Some-Back-clause-comes : goal.returns-in-Some-Back-clause-comes
returns-in-Some-Back-clause-comes c = λ p. record {
  same = λ T o. value-pops T p c.args.self.now c.pop.new.self.items (mark.Back c.in-Some-Back.fuel c.in-Some-Back.shape c.in-Some-Back.entered) (value_of c.args.v) o
      (c.in-Some-Back.ensures.items ∙ ap (λ (x : Mark). c.pop.new.self.items ++ x ∷ []) c.in-Some-Back.field-0-is);
}

pub returns-in-Some-Value-clause-within : goal.returns-in-Some-Value-clause-within
returns-in-Some-Value-clause-within c = λ p. omega (arith, c.take_value.ensures.within p, pushed-left c.pop.new.self.items c.args.self.now.stack.items (mark.Value c.in-Some-Value.fuel c.in-Some-Value.mark) (c.in-Some-Value.ensures.items ∙ ap (λ (x : Mark). c.pop.new.self.items ++ x ∷ []) c.in-Some-Value.field-0-is))

pub returns-in-Some-Test-clause-within : goal.returns-in-Some-Test-clause-within
returns-in-Some-Test-clause-within c = λ p. omega (arith, c.take_test.ensures.within p, pushed-left c.pop.new.self.items c.args.self.now.stack.items (mark.Test c.in-Some-Test.fuel c.in-Some-Test.mark) (c.in-Some-Test.ensures.items ∙ ap (λ (x : Mark). c.pop.new.self.items ++ x ∷ []) c.in-Some-Test.field-0-is))

pub returns-in-None-clause-within : goal.returns-in-None-clause-within
returns-in-None-clause-within c = λ p. omega (arith, c.end_with.ensures.stops p (record c.args.self.now { stack = c.pop.new.self }))
