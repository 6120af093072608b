use Rattle.cf_core_run.proofs.NearLaws.{pushed-left}
use Rattle.cf_core_run.specs.Nearer.{weight}
use Rattle.std.proofs.Common.{arith, ap}
use Rattle.cf_core_run.specs.declared.mark.ValueMark.TheVariants as vm
use Rattle.cf_core_run.proofs.Goes.{object-goes}
use Rattle.cf_core_run.proofs.state.Machine.hold_in.Goals as goal

pub returns-clause-comes : goal.returns-clause-comes
returns-clause-comes c = λ p. object-goes p c.args.self.now c.push.new.self (vm.Held c.args.object) c.args.object c.whole.result c.args.start.now c.get.result c.in_ok-push.ensures.items c.get.ensures c.whole.ensures

pub returns-clause-within : goal.returns-clause-within
returns-clause-within c = λ p. omega (arith, pushed-left _ _ _ c.in_ok-push.ensures.items, ap weight c.get.ensures)
