use Rattle.std.proofs.Common.{◌-◌}
use Rattle.cf_core.specs.Calls.{turn}
use Rattle.cf_core_run.specs.Going.{from_flow, performed, again, loop_of}
use Rattle.cf_core_run.proofs.Laws.{comes-by}
use Rattle.cf_core_run.proofs.StatementLaws.{again-none, turn-goes}
use Rattle.cf_core_run.proofs.state.Machine.repeat.Goals as goal

pub returns-then-self-eq0-clause-comes : goal.returns-then-self-eq0-clause-comes
returns-then-self-eq0-clause-comes c = λ p. again-none p c.args.self.now (λ T. turn (loop_of T p c.args.repeated)) c.if-self-eq0.true

pub returns-clause-comes : goal.returns-clause-comes
returns-clause-comes c = λ p. comes-by p (λ T o. from_flow T p c.args.self.now (again T p c.args.self.now.fuel (turn (loop_of T p c.args.repeated))) o)
    (λ T o. from_flow T p (record c.args.self.now { fuel = c.args.self.now.fuel - 1 }) (performed T p (c.args.self.now.fuel - 1) (loop_of T p c.args.repeated)) o) c.start_loop.result c.start_loop.new.self
    (λ T o. turn-goes T p c.args.self.now c.args.repeated o c.if-self-eq0.false) (c.start_loop.ensures.comes p)
