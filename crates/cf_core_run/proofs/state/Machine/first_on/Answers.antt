use Rattle.std.proofs.Common.{ap, arith}
use Rattle.cf_core.specs.Calls.{Falls}
use Rattle.cf_core.specs.Run.{gives, when}
use Rattle.cf_core_run.specs.Going.{body_turn}
use Rattle.cf_core_objects.specs.Store.{state_of}
use Rattle.cf_core_run.proofs.Laws.{flow-as}
use Rattle.cf_core_run.proofs.state.Machine.first_on.Goals as goal

pub returns-then-holds-clause-comes : goal.returns-then-holds-clause-comes
returns-then-holds-clause-comes c = λ p. flow-as p c.args.self.now (λ T. when c.args.holds (body_turn T p c.args.self.now.fuel c.args.repeated) (gives Falls)) (λ T. body_turn T p c.args.self.now.fuel c.args.repeated) c.open_body.result c.open_body.new.self (c.open_body.ensures.comes p) (λ T w. ap (λ h. when h (body_turn T p c.args.self.now.fuel c.args.repeated) (gives Falls) (state_of T c.args.self.now.entered c.args.self.now.objects) w) c.if-holds.true)

pub returns-else-holds-clause-comes : goal.returns-else-holds-clause-comes
returns-else-holds-clause-comes c = λ p. flow-as p c.args.self.now (λ T. when c.args.holds (body_turn T p c.args.self.now.fuel c.args.repeated) (gives Falls)) (λ T. gives Falls) c.ends.result c.ends.new.self (c.ends.ensures.comes p) (λ T w. ap (λ h. when h (body_turn T p c.args.self.now.fuel c.args.repeated) (gives Falls) (state_of T c.args.self.now.entered c.args.self.now.objects) w) c.if-holds.false)

pub returns-else-holds-clause-within : goal.returns-else-holds-clause-within
returns-else-holds-clause-within c = λ p. omega (arith, c.ends.ensures.within p)
