use Rattle.cf_core_run.proofs.NearLaws.{pushed-left}
use Rattle.cf_core_run.specs.Nearer.{weight}
use Rattle.std.proofs.Common.{arith, ap}
use Rattle.cf_core_run.proofs.StatementLaws.{body-goes}
use Rattle.cf_core_run.proofs.state.Machine.open_body.Goals as goal

pub returns-clause-comes : goal.returns-clause-comes
returns-clause-comes c = λ p. body-goes p c.args.self.now c.open_scope.new.self c.push.new.self c.args.repeated c.get.result c.in_ok-push.ensures.items c.in_ok-open_scope.ensures.opens c.get.ensures

pub returns-clause-within : goal.returns-clause-within
returns-clause-within c = λ p. omega (arith, pushed-left _ _ _ c.in_ok-push.ensures.items, c.in_ok-open_scope.ensures.within, ap weight c.get.ensures)
