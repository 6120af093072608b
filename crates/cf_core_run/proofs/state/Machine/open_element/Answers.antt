use Rattle.std.proofs.Common.{arith}
use Rattle.cf_core_run.specs.declared.mark.ValueMark.TheVariants as vm
use Rattle.cf_core_run.proofs.Goes.{part-goes}
use Rattle.cf_core_run.proofs.state.Machine.open_element.Goals as goal

pub returns-clause-comes : goal.returns-clause-comes
returns-clause-comes c = λ p. part-goes p c.args.self.now c.open_part.new.self (vm.Element c.args.others) c.args.goal c.args.e c.in_ok-open_part.ensures.opens

pub returns-clause-within : goal.returns-clause-within
returns-clause-within c = λ p. omega (arith, c.in_ok-open_part.ensures.within)
