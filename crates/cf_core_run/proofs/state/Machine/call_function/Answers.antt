use Rattle.std.proofs.Common.{◌∙◌, Option, None, ap, sym}
use Rattle.cf_run_tree.specs.Tree.{function_of, program_of}
use Rattle.cf_core_objects.specs.Store.{state_of}
use Rattle.cf_core_run.proofs.Laws.{value-as, value-stopped}
use Rattle.cf_core_run.proofs.CallLaws.{function-as}
use Rattle.std.proofs.Common.{Some, option_copied}
use Rattle.cf_core.specs.Core.{Function}
use Rattle.cf_core.specs.Calls as calls
use Rattle.cf_core_objects.specs.declared.answer.Stop.TheVariants as stop
use Rattle.cf_core_run.specs.Going.{again}
use Rattle.cf_core_run.proofs.state.Machine.call_function.Goals as goal

pub returns-in-None-clause-comes : goal.returns-in-None-clause-comes
returns-in-None-clause-comes c = value-stopped c.args.program.now c.args.self.now (λ T. calls.enter_found (again T c.args.program.now c.args.self.now.fuel) (calls.function_named (program_of T c.args.program.now) c.args.name.now) c.args.made.items None None) stop.Malformed
    (λ T w. ap (λ (f : Option Function). calls.enter_found (again T c.args.program.now c.args.self.now.fuel) f c.args.made.items None None (state_of T c.args.self.now.entered c.args.self.now.objects) w) (function-as T c.args.program.now c.args.name.now None (sym c.function_named.ensures ∙ ap option_copied c.in-None.is)))

pub returns-in-Some-clause-comes : goal.returns-in-Some-clause-comes
returns-in-Some-clause-comes c = value-as c.args.program.now c.args.self.now
    (λ T. calls.enter_found (again T c.args.program.now c.args.self.now.fuel) (calls.function_named (program_of T c.args.program.now) c.args.name.now) c.args.made.items None None)
    (λ T. calls.enter_found (again T c.args.program.now c.args.self.now.fuel) (Some (function_of T c.args.program.now c.in-Some.f.now)) c.args.made.items None None)
    c.enter_on.result c.enter_on.new.self (c.enter_on.ensures.comes c.args.program.now)
    (λ T s w. ap (λ (f : Option Function). calls.enter_found (again T c.args.program.now c.args.self.now.fuel) f c.args.made.items None None s w)
    (function-as T c.args.program.now c.args.name.now (Some c.in-Some.f.now) (sym c.function_named.ensures ∙ ap option_copied c.in-Some.is)))
