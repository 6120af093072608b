use Rattle.std.proofs.Common.{None}
use Rattle.cf_core.specs.Run.{when}
use Rattle.cf_core.specs.Scalars.{truth_of}
use Rattle.cf_run_tree.specs.Tree.{core_of}
use Rattle.cf_core_run.specs.Going.{valued}
use Rattle.cf_core_objects.specs.Store.{state_of, value_of}
use Rattle.cf_core_run.proofs.Laws.{value-err, value-ok}
use Rattle.cf_core_run.proofs.state.Machine.choice.Goals as goal

pub returns-in-Err-clause-comes : goal.returns-in-Err-clause-comes
returns-in-Err-clause-comes c = λ p. value-err p c.args.self.now (λ b. b) c.truth.result c.in-Err.stop (λ T. truth_of (value_of c.args.v)) (λ T. (λ x. when x (valued T p c.args.self.now.fuel (core_of T p c.args.a.now) None) (valued T p c.args.self.now.fuel (core_of T p c.args.b.now) None)))
    (λ T. state_of T c.args.self.now.entered c.args.self.now.objects) c.in-Err.is (λ T w. c.truth.ensures (state_of T c.args.self.now.entered c.args.self.now.objects) w)

pub returns-in-Ok-clause-comes : goal.returns-in-Ok-clause-comes
returns-in-Ok-clause-comes c = λ p. value-ok p c.args.self.now c.args.self.now.entered c.args.self.now.objects (λ b. b) c.truth.result c.in-Ok.holds (λ T. truth_of (value_of c.args.v)) (λ T. (λ x. when x (valued T p c.args.self.now.fuel (core_of T p c.args.a.now) None) (valued T p c.args.self.now.fuel (core_of T p c.args.b.now) None)))
    c.choice_on.result c.choice_on.new.self c.in-Ok.is (λ T w. c.truth.ensures (state_of T c.args.self.now.entered c.args.self.now.objects) w) (c.choice_on.ensures.comes p)
