use Rattle.cf_core_run.proofs.NearLaws.{pushed-left}
use Rattle.cf_core_run.specs.Nearer.{weight}
use Rattle.std.proofs.Common.{arith, ap}
use Rattle.cf_core_run.proofs.Goes.{down-goes}
use Rattle.cf_core_run.proofs.state.Machine.down.Goals as goal

pub returns-clause-comes : goal.returns-clause-comes
returns-clause-comes c = λ p. down-goes p c.args.self.now c.push.new.self c.args.mark c.args.a.now c.get.result c.in_ok-push.ensures.items c.get.ensures

pub returns-clause-within : goal.returns-clause-within
returns-clause-within c = λ p. omega (arith, pushed-left _ _ _ c.in_ok-push.ensures.items, ap weight c.get.ensures)
