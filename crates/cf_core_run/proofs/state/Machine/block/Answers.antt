use Rattle.std.proofs.Common.{arith}
use Rattle.cf_core_run.proofs.StatementLaws.{block-goes}
use Rattle.cf_core_run.proofs.state.Machine.block.Goals as goal

pub returns-clause-comes : goal.returns-clause-comes
returns-clause-comes c = λ p. block-goes p c.args.self.now c.open_scope.new.self c.args.all c.in_ok-open_scope.ensures.opens

pub returns-clause-within : goal.returns-clause-within
returns-clause-within c = λ p. omega (arith, c.in_ok-open_scope.ensures.within)
