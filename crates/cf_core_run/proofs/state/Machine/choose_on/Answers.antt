use Rattle.std.proofs.Common.{ap, arith}
use Rattle.cf_core.specs.Run.{when}
use Rattle.cf_run_tree.specs.Tree.{core_of}
use Rattle.cf_core_run.specs.Going.{performed, performed_other}
use Rattle.cf_core_objects.specs.Store.{state_of}
use Rattle.cf_core_run.proofs.Laws.{flow-as}
use Rattle.cf_core_run.proofs.state.Machine.choose_on.Goals as goal

pub returns-then-holds-clause-comes : goal.returns-then-holds-clause-comes
returns-then-holds-clause-comes c = λ p. flow-as p c.args.self.now (λ T. when c.args.holds (performed T p c.args.self.now.fuel (core_of T p c.args.yes.now)) (performed_other T p c.args.self.now.fuel c.args.no.now)) (λ T. performed T p c.args.self.now.fuel (core_of T p c.args.yes.now)) c.perform_next.result c.perform_next.new.self (c.perform_next.ensures.comes p) (λ T w. ap (λ h. when h (performed T p c.args.self.now.fuel (core_of T p c.args.yes.now)) (performed_other T p c.args.self.now.fuel c.args.no.now) (state_of T c.args.self.now.entered c.args.self.now.objects) w) c.if-holds.true)

pub returns-else-holds-clause-comes : goal.returns-else-holds-clause-comes
returns-else-holds-clause-comes c = λ p. flow-as p c.args.self.now (λ T. when c.args.holds (performed T p c.args.self.now.fuel (core_of T p c.args.yes.now)) (performed_other T p c.args.self.now.fuel c.args.no.now)) (λ T. performed_other T p c.args.self.now.fuel c.args.no.now) c.perform_other.result c.perform_other.new.self (c.perform_other.ensures.comes p) (λ T w. ap (λ h. when h (performed T p c.args.self.now.fuel (core_of T p c.args.yes.now)) (performed_other T p c.args.self.now.fuel c.args.no.now) (state_of T c.args.self.now.entered c.args.self.now.objects) w) c.if-holds.false)

pub returns-then-holds-clause-within : goal.returns-then-holds-clause-within
returns-then-holds-clause-within c = λ p. omega (arith, c.perform_next.ensures.within p)

pub returns-else-holds-clause-within : goal.returns-else-holds-clause-within
returns-else-holds-clause-within c = λ p. omega (arith, c.perform_other.ensures.within p)
