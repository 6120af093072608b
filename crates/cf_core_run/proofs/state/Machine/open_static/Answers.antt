use Rattle.std.proofs.Common.{[], Some, None, subst, arith}
use Rattle.cf_core.specs.Places.{Place}
use Rattle.cf_core.specs.Objects.{settled}
use Rattle.cf_core.specs.Run.{◌>>◌}
use Rattle.cf_run_tree.specs.Tree.{core_of}
use Rattle.cf_core_run.specs.declared.mark.Doing.TheVariants as doing
use Rattle.cf_core_run.specs.declared.mark.ValueMark.TheVariants as vm
use Rattle.cf_core_run.specs.Going.{GoesOn, from_value, full, valued, setting}
use Rattle.cf_core_run.proofs.Goes.{part-goes}
use Rattle.cf_core_run.proofs.state.Machine.open_static.Goals as goal

pub returns-clause-comes : goal.returns-clause-comes
returns-clause-comes c = λ p.
    subst (λ (q : Place). GoesOn p (λ T o. from_value T p c.args.self.now (full T p c.args.self.now.fuel (settled [] q (valued T p c.args.self.now.fuel (core_of T p c.args.start.now) (Some q))) >> setting T p c.args.self.now.fuel c.args.rest.now) o) None
    (record c.open_part.new.self { doing = doing.Evaluate c.args.start (Some c.whole-goal.result) })) c.whole-goal.ensures
    (part-goes p c.args.self.now c.open_part.new.self (vm.Constant c.args.rest) c.whole-goal.result c.args.start c.in_ok-open_part.ensures.opens)

pub returns-clause-within : goal.returns-clause-within
returns-clause-within c = λ p. omega (arith, c.in_ok-open_part.ensures.within)
