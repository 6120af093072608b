use Rattle.cf_core_run.specs.Nearer.{weight}
use Rattle.std.proofs.Common.{arith, ap}
use Rattle.cf_core_run.proofs.Goes.{test-goes}
use Rattle.cf_core_run.proofs.state.Machine.test.Goals as goal

pub returns-clause-comes : goal.returns-clause-comes
returns-clause-comes c = λ p. test-goes p c.args.self.now c.open_whole.new.self c.args.mark c.args.e.now c.get.result c.in_ok-open_whole.ensures.opens c.get.ensures

pub returns-clause-within : goal.returns-clause-within
returns-clause-within c = λ p. omega (arith, c.in_ok-open_whole.ensures.within, ap weight c.get.ensures)
