use Rattle.cf_core_run.specs.Nearer.{weight}
use Rattle.std.proofs.Common.{arith, ap}
use Rattle.cf_core_run.proofs.Goes.{initialise-goes}
use Rattle.cf_core_run.proofs.state.Machine.initialise.Goals as goal

pub returns-clause-comes : goal.returns-clause-comes
returns-clause-comes c = λ p. initialise-goes p c.args.self.now c.open_start.new.self c.args.object c.whole-goal.result c.args.start.now c.get.result c.in_ok-open_start.ensures.opens c.get.ensures c.whole-goal.ensures

pub returns-clause-within : goal.returns-clause-within
returns-clause-within c = λ p. omega (arith, c.in_ok-open_start.ensures.within, ap weight c.get.ensures)
