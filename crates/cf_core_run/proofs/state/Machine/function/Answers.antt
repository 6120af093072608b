use Rattle.std.proofs.Common.{refl, Ok}
use Rattle.cf_core.specs.Calls.{name_function}
use Rattle.cf_core.specs.Run.{gives}
use Rattle.cf_core.specs.Store.{Code}
use Rattle.cf_run_tree.specs.Tree.{signature_type, function_head, program_of}
use Rattle.cf_core_objects.specs.declared.answer.Value.TheVariants as given
use Rattle.cf_core_objects.specs.Store.{state_of}
use Rattle.cf_core_run.specs.declared.mark.Doing.TheVariants as doing
use Rattle.cf_core_run.specs.declared.state.Step.TheVariants as step
use Rattle.cf_core_run.proofs.Laws.{value-err, value-ok}
use Rattle.cf_core_run.proofs.state.Machine.function.Goals as goal

pub returns-in-Err-clause-comes : goal.returns-in-Err-clause-comes
returns-in-Err-clause-comes c = value-err c.args.program.now c.args.self.now (λ u. tt) c.named.result c.in-Err.stop (λ T. name_function (program_of T c.args.program.now) c.args.name.now (signature_type T (function_head c.args.program.now c.args.name.now c.args.signature.now))) (λ T u. gives (Code c.args.name.now))
    (λ T. state_of T c.args.self.now.entered c.args.self.now.objects) c.in-Err.is (λ T w. c.named.ensures T c.args.signature.now (state_of T c.args.self.now.entered c.args.self.now.objects) w)

pub returns-in-Ok-clause-comes : goal.returns-in-Ok-clause-comes
returns-in-Ok-clause-comes c = value-ok c.args.program.now c.args.self.now c.args.self.now.entered c.args.self.now.objects (λ u. tt) c.named.result tt (λ T. name_function (program_of T c.args.program.now) c.args.name.now (signature_type T (function_head c.args.program.now c.args.name.now c.args.signature.now))) (λ T u. gives (Code c.args.name.now))
    (Ok step.On) (record c.args.self.now { doing = doing.Gives (given.Code c.args.name) }) c.in-Ok.is (λ T w. c.named.ensures T c.args.signature.now (state_of T c.args.self.now.entered c.args.self.now.objects) w) (record { same = λ T o. refl })
