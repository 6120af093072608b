use Rattle.cf_core_run.proofs.NearLaws.{pushed-left}
use Rattle.std.proofs.Common.{refl, arith}
use Rattle.cf_core_run.specs.declared.mark.ValueMark.TheVariants as vm
use Rattle.cf_core_run.proofs.Goes.{object-goes}
use Rattle.cf_core_run.proofs.state.Machine.pass_in.Goals as goal

pub returns-clause-comes : goal.returns-clause-comes
returns-clause-comes c = λ p. object-goes p c.args.self.now c.push.new.self (vm.Argument c.args.left c.args.object) c.args.object c.whole.result c.args.first.now c.args.first c.in_ok-push.ensures.items refl c.whole.ensures

pub returns-clause-within : goal.returns-clause-within
returns-clause-within c = λ p. omega (arith, pushed-left _ _ _ c.in_ok-push.ensures.items)
