use Rattle.cf_core.specs.Store.{Code}
use Rattle.cf_core.specs.Calls.{name_function}
use Rattle.std.proofs.Common.{subst}
use Rattle.cf_run_tree.specs.declared.program.Signature.{Signature}
use Rattle.cf_run_tree.specs.Tree.{signature_type, function_head, program_of}
use Rattle.cf_core_objects.specs.Store.{state_of}
use Rattle.cf_core_run.specs.Going.{Comes, from_value, starting, cores}
use Rattle.cf_core_run.proofs.Laws.{value-err, value-ok}
use Rattle.cf_core_run.proofs.state.Machine.call.Goals as goal

pub returns-in-Err-clause-comes : goal.returns-in-Err-clause-comes
returns-in-Err-clause-comes c = λ into. value-err c.args.program.now c.args.self.now (λ u. tt) c.named.result c.in-Err.stop (λ T. name_function (program_of T c.args.program.now) c.args.name.now (signature_type T (function_head c.args.program.now c.args.name.now c.args.signature.now))) (λ T u. starting T c.args.program.now c.args.self.now.fuel (Code c.args.name.now) (signature_type T (function_head c.args.program.now c.args.name.now c.args.signature.now)) (cores T c.args.program.now c.args.all.now) into) (λ T. (state_of T c.args.self.now.entered c.args.self.now.objects)) c.in-Err.is (λ T w. c.named.ensures T c.args.signature.now (state_of T c.args.self.now.entered c.args.self.now.objects) w)

pub returns-in-Ok-clause-comes : goal.returns-in-Ok-clause-comes
returns-in-Ok-clause-comes c = λ into. value-ok c.args.program.now c.args.self.now c.args.self.now.entered c.args.self.now.objects (λ u. tt) c.named.result tt (λ T. name_function (program_of T c.args.program.now) c.args.name.now (signature_type T (function_head c.args.program.now c.args.name.now c.args.signature.now))) (λ T u. starting T c.args.program.now c.args.self.now.fuel (Code c.args.name.now) (signature_type T (function_head c.args.program.now c.args.name.now c.args.signature.now)) (cores T c.args.program.now c.args.all.now) into) c.start_call.result c.start_call.new.self c.in-Ok.is
    (λ T w. c.named.ensures T c.args.signature.now (state_of T c.args.self.now.entered c.args.self.now.objects) w) (subst (λ (g : Signature). Comes c.args.program.now (λ T o. from_value T c.args.program.now c.args.self.now (starting T c.args.program.now c.args.self.now.fuel (Code c.args.name.now) (signature_type T g) (cores T c.args.program.now c.args.all.now) into) o) c.start_call.result c.start_call.new.self) c.head.ensures (c.start_call.ensures.comes c.args.program.now into))
