use Rattle.cf_core_run.proofs.NearLaws.{pushed-left}
use Rattle.std.proofs.Common.{refl, arith}
use Rattle.cf_core_run.proofs.Goes.{down-goes}
use Rattle.cf_core_run.specs.declared.mark.ValueMark.TheVariants as vm
use Rattle.cf_core_run.proofs.state.Machine.comma_rest.Goals as goal

pub returns-clause-comes : goal.returns-clause-comes
returns-clause-comes c = λ p. down-goes p c.args.self.now c.push.new.self (vm.Comma c.args.rest) c.args.first.now c.args.first c.in_ok-push.ensures.items refl

pub returns-clause-within : goal.returns-clause-within
returns-clause-within c = λ p. omega (arith, pushed-left _ _ _ c.in_ok-push.ensures.items)
