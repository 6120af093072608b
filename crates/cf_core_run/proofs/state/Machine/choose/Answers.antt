use Rattle.cf_core.specs.Run.{when}
use Rattle.cf_core.specs.Scalars.{truth_of}
use Rattle.cf_run_tree.specs.Tree.{core_of}
use Rattle.cf_core_run.specs.Going.{performed, performed_other}
use Rattle.cf_core_objects.specs.Store.{state_of, value_of}
use Rattle.cf_core_run.proofs.Laws.{flow-err, flow-ok}
use Rattle.cf_core_run.proofs.state.Machine.choose.Goals as goal

pub returns-in-Err-clause-comes : goal.returns-in-Err-clause-comes
returns-in-Err-clause-comes c = λ p. flow-err p c.args.self.now (λ b. b) c.truth.result c.in-Err.stop (λ T. truth_of (value_of c.args.v)) (λ T t. when t (performed T p c.args.self.now.fuel (core_of T p c.args.yes.now)) (performed_other T p c.args.self.now.fuel c.args.no.now)) (λ T. state_of T c.args.self.now.entered c.args.self.now.objects) c.in-Err.is
    (λ T w. c.truth.ensures (state_of T c.args.self.now.entered c.args.self.now.objects) w)

pub returns-in-Ok-clause-comes : goal.returns-in-Ok-clause-comes
returns-in-Ok-clause-comes c = λ p. flow-ok p c.args.self.now c.args.self.now.entered c.args.self.now.objects (λ b. b) c.truth.result c.in-Ok.holds (λ T. truth_of (value_of c.args.v)) (λ T t. when t (performed T p c.args.self.now.fuel (core_of T p c.args.yes.now)) (performed_other T p c.args.self.now.fuel c.args.no.now)) c.choose_on.result c.choose_on.new.self c.in-Ok.is
    (λ T w. c.truth.ensures (state_of T c.args.self.now.entered c.args.self.now.objects) w) (c.choose_on.ensures.comes p)
