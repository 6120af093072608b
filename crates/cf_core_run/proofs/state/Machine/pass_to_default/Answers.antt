use Rattle.std.proofs.Common.{Ok, refl}
use Rattle.cf_core.specs.Statements.{passes, from_default}
use Rattle.cf_run_tree.specs.Tree.{core_of, program_of}
use Rattle.cf_core_objects.specs.Store.{state_of}
use Rattle.cf_core_run.specs.declared.mark.Doing.TheVariants as doing
use Rattle.cf_core_run.specs.declared.state.Step.TheVariants as step
use Rattle.cf_core_run.specs.Going.{cores, again}
use Rattle.cf_core_run.proofs.Laws.{flow-err, flow-ok}
use Rattle.cf_core_run.proofs.state.Machine.pass_to_default.Goals as goal

pub returns-in-Err-clause-comes : goal.returns-in-Err-clause-comes
returns-in-Err-clause-comes c = λ p. flow-err p c.args.self.now (λ u. tt) c.pass_over.result c.in-Err.stop (λ T. passes (core_of T p c.args.first.now)) (λ T u. from_default (again T p c.args.self.now.fuel) (program_of T p) (cores T p c.args.rest.now))
    (λ T. state_of T c.pass_over.new.entered c.pass_over.new.objects) c.in-Err.is (λ T w. c.pass_over.ensures T p w)

pub returns-in-Ok-clause-comes : goal.returns-in-Ok-clause-comes
returns-in-Ok-clause-comes c = λ p. flow-ok p c.args.self.now c.pass_over.new.entered c.pass_over.new.objects (λ u. tt) c.pass_over.result tt (λ T. passes (core_of T p c.args.first.now)) (λ T u. from_default (again T p c.args.self.now.fuel) (program_of T p) (cores T p c.args.rest.now))
    (Ok step.On) (record c.args.self.now { entered = c.pass_over.new.entered; objects = c.pass_over.new.objects; doing = doing.Default c.args.rest }) c.in-Ok.is (λ T w. c.pass_over.ensures T p w)
    (record { same = λ T o. refl })
