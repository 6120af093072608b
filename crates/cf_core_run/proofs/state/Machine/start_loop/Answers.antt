use Rattle.cf_core_run.proofs.NearLaws.{one-more-most}
use Rattle.std.proofs.Common.{◌∙◌, ◌-◌, ap, arith}
use Rattle.cf_core.specs.Run.{when}
use Rattle.cf_core.specs.Statements.{tests_first}
use Rattle.cf_core_run.specs.Going.{from_flow, performed, loop_of, first_turn, body_turn}
use Rattle.cf_core_run.proofs.Laws.{comes-by}
use Rattle.cf_core_run.proofs.StatementLaws.{loop-goes, loop-ticks}
use Rattle.cf_core_run.proofs.state.Machine.start_loop.Goals as goal

pub returns-then-self-eq0-clause-comes : goal.returns-then-self-eq0-clause-comes
returns-then-self-eq0-clause-comes c = λ p. loop-ticks p c.args.self.now c.args.repeated c.if-self-eq0.true

pub returns-in-Do-clause-comes : goal.returns-in-Do-clause-comes
returns-in-Do-clause-comes c = λ p. comes-by p (λ T o. from_flow T p c.args.self.now (performed T p c.args.self.now.fuel (loop_of T p c.args.repeated)) o)
    (λ T o. from_flow T p (record c.args.self.now { ticks = c.args.self.now.ticks - 1 }) (body_turn T p c.args.self.now.fuel c.args.repeated) o) c.open_body.result c.open_body.new.self
    (λ T o. loop-goes T p c.args.self.now c.args.repeated o c.if-self-eq0.false
    ∙ ap (λ f. from_flow T p (record c.args.self.now { ticks = c.args.self.now.ticks - 1 }) (when (tests_first f) (first_turn T p c.args.self.now.fuel c.args.repeated) (body_turn T p c.args.self.now.fuel c.args.repeated)) o) c.in-Do.is) (c.open_body.ensures.comes p)

pub returns-in-While-clause-comes : goal.returns-in-While-clause-comes
returns-in-While-clause-comes c = λ p. comes-by p (λ T o. from_flow T p c.args.self.now (performed T p c.args.self.now.fuel (loop_of T p c.args.repeated)) o)
    (λ T o. from_flow T p (record c.args.self.now { ticks = c.args.self.now.ticks - 1 }) (first_turn T p c.args.self.now.fuel c.args.repeated) o) c.test_first.result c.test_first.new.self
    (λ T o. loop-goes T p c.args.self.now c.args.repeated o c.if-self-eq0.false
    ∙ ap (λ f. from_flow T p (record c.args.self.now { ticks = c.args.self.now.ticks - 1 }) (when (tests_first f) (first_turn T p c.args.self.now.fuel c.args.repeated) (body_turn T p c.args.self.now.fuel c.args.repeated)) o) c.in-While.is) (c.test_first.ensures.comes p)

pub returns-in-For-clause-comes : goal.returns-in-For-clause-comes
returns-in-For-clause-comes c = λ p. comes-by p (λ T o. from_flow T p c.args.self.now (performed T p c.args.self.now.fuel (loop_of T p c.args.repeated)) o)
    (λ T o. from_flow T p (record c.args.self.now { ticks = c.args.self.now.ticks - 1 }) (first_turn T p c.args.self.now.fuel c.args.repeated) o) c.test_first-in-For.result c.test_first-in-For.new.self
    (λ T o. loop-goes T p c.args.self.now c.args.repeated o c.if-self-eq0.false
    ∙ ap (λ f. from_flow T p (record c.args.self.now { ticks = c.args.self.now.ticks - 1 }) (when (tests_first f) (first_turn T p c.args.self.now.fuel c.args.repeated) (body_turn T p c.args.self.now.fuel c.args.repeated)) o) c.in-For.is) (c.test_first-in-For.ensures.comes p)

pub returns-in-Do-clause-spends : goal.returns-in-Do-clause-spends
returns-in-Do-clause-spends c = omega (arith, c.open_body.ensures.ticks, one-more-most c.open_body.result c.open_body.new.self, c.if-self-eq0.false)

pub returns-in-While-clause-spends : goal.returns-in-While-clause-spends
returns-in-While-clause-spends c = omega (arith, c.test_first.ensures.ticks, one-more-most c.test_first.result c.test_first.new.self, c.if-self-eq0.false)

pub returns-in-For-clause-spends : goal.returns-in-For-clause-spends
returns-in-For-clause-spends c = omega (arith, c.test_first-in-For.ensures.ticks, one-more-most c.test_first-in-For.result c.test_first-in-For.new.self, c.if-self-eq0.false)
