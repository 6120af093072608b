use Rattle.cf_core_run.proofs.NearLaws.{weights-none}
use Rattle.std.proofs.Common.{ap, refl, arith}
use Rattle.cf_core.specs.Store.{Code}
use Rattle.cf_core_run.proofs.WholeLaws.{main-goes}
use Rattle.cf_core_run.proofs.state.Machine.call_main.Goals as goal

pub returns-clause-comes : goal.returns-clause-comes
returns-clause-comes c = λ p. main-goes p c.args.self.now _ (ap Code c.as_slice.ensures) refl refl c.new.ensures.items

pub returns-clause-within : goal.returns-clause-within
returns-clause-within c = λ p. omega (arith, weights-none)
