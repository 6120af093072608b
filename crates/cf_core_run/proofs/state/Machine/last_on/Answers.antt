use Rattle.std.proofs.Common.{ap}
use Rattle.cf_core.specs.Calls.{Falls, turn}
use Rattle.cf_core.specs.Run.{gives, when}
use Rattle.cf_core_run.specs.Going.{again, loop_of}
use Rattle.cf_core_objects.specs.Store.{state_of}
use Rattle.cf_core_run.proofs.Laws.{flow-as}
use Rattle.cf_core_run.proofs.state.Machine.last_on.Goals as goal

pub returns-then-holds-clause-comes : goal.returns-then-holds-clause-comes
returns-then-holds-clause-comes c = λ p. flow-as p c.args.self.now (λ T. when c.args.holds (again T p c.args.self.now.fuel (turn (loop_of T p c.args.repeated))) (gives Falls)) (λ T. again T p c.args.self.now.fuel (turn (loop_of T p c.args.repeated))) c.repeat_next.result c.repeat_next.new.self (c.repeat_next.ensures.comes p) (λ T w. ap (λ h. when h (again T p c.args.self.now.fuel (turn (loop_of T p c.args.repeated))) (gives Falls) (state_of T c.args.self.now.entered c.args.self.now.objects) w) c.if-holds.true)

pub returns-else-holds-clause-comes : goal.returns-else-holds-clause-comes
returns-else-holds-clause-comes c = λ p. flow-as p c.args.self.now (λ T. when c.args.holds (again T p c.args.self.now.fuel (turn (loop_of T p c.args.repeated))) (gives Falls)) (λ T. gives Falls) c.ends.result c.ends.new.self (c.ends.ensures.comes p) (λ T w. ap (λ h. when h (again T p c.args.self.now.fuel (turn (loop_of T p c.args.repeated))) (gives Falls) (state_of T c.args.self.now.entered c.args.self.now.objects) w) c.if-holds.false)
