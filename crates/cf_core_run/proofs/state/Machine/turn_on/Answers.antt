use Rattle.std.proofs.Common.{ap, true, false}
use Rattle.cf_core.specs.Statements.{tests_first}
use Rattle.cf_core_run.specs.Going.{turned}
use Rattle.cf_core_objects.specs.Store.{state_of}
use Rattle.cf_core_run.proofs.Laws.{flow-as}
use Rattle.cf_core_run.proofs.state.Machine.turn_on.Goals as goal

pub returns-in-Do-clause-comes : goal.returns-in-Do-clause-comes
returns-in-Do-clause-comes c = λ p. flow-as p c.args.self.now (λ T. turned T p c.args.self.now.fuel c.args.repeated (tests_first c.args.repeated.form)) (λ T. turned T p c.args.self.now.fuel c.args.repeated false) c.test_last.result c.test_last.new.self (c.test_last.ensures.comes p)
    (λ T w. ap (λ f. turned T p c.args.self.now.fuel c.args.repeated (tests_first f) (state_of T c.args.self.now.entered c.args.self.now.objects) w) c.in-Do.is)

pub returns-in-While-clause-comes : goal.returns-in-While-clause-comes
returns-in-While-clause-comes c = λ p. flow-as p c.args.self.now (λ T. turned T p c.args.self.now.fuel c.args.repeated (tests_first c.args.repeated.form)) (λ T. turned T p c.args.self.now.fuel c.args.repeated true) c.do_step.result c.do_step.new.self (c.do_step.ensures.comes p)
    (λ T w. ap (λ f. turned T p c.args.self.now.fuel c.args.repeated (tests_first f) (state_of T c.args.self.now.entered c.args.self.now.objects) w) c.in-While.is)

pub returns-in-For-clause-comes : goal.returns-in-For-clause-comes
returns-in-For-clause-comes c = λ p. flow-as p c.args.self.now (λ T. turned T p c.args.self.now.fuel c.args.repeated (tests_first c.args.repeated.form)) (λ T. turned T p c.args.self.now.fuel c.args.repeated true) c.do_step-in-For.result c.do_step-in-For.new.self (c.do_step-in-For.ensures.comes p)
    (λ T w. ap (λ f. turned T p c.args.self.now.fuel c.args.repeated (tests_first f) (state_of T c.args.self.now.entered c.args.self.now.objects) w) c.in-For.is)
