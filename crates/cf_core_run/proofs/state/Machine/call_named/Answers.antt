use Rattle.cf_core.specs.Store.{Code}
use Rattle.std.proofs.Common.{◌∙◌, None, sym, arith}
use Rattle.cf_run_tree.specs.Tree.{program_of}
use Rattle.cf_core_run.specs.Going.{called}
use Rattle.cf_core_run.proofs.Laws.{value-as}
use Rattle.cf_core.specs.Calls as calls
use Rattle.cf_core_run.specs.Going.{again}
use Rattle.cf_core_run.proofs.CallLaws.{called-library, called-function}
use Rattle.cf_core_run.proofs.state.Machine.call_named.Goals as goal

pub returns-then-is_library-clause-comes : goal.returns-then-is_library-clause-comes
returns-then-is_library-clause-comes c = value-as c.args.program.now c.args.self.now (λ T. called T c.args.program.now c.args.self.now.fuel (Code c.args.name.now) c.args.made.items) (λ T. calls.call_library c.args.name.now c.args.made.items) c.call_library.result c.call_library.new.self (c.call_library.ensures.comes c.args.program.now)
    (λ T s w. called-library T c.args.program.now c.args.self.now.fuel c.args.name.now c.args.made.items s w (sym c.is_library.ensures ∙ c.if-is_library.true))

pub returns-else-is_library-clause-comes : goal.returns-else-is_library-clause-comes
returns-else-is_library-clause-comes c = value-as c.args.program.now c.args.self.now (λ T. called T c.args.program.now c.args.self.now.fuel (Code c.args.name.now) c.args.made.items)
    (λ T. calls.enter_found (again T c.args.program.now c.args.self.now.fuel) (calls.function_named (program_of T c.args.program.now) c.args.name.now) c.args.made.items None None) c.call_function.result c.call_function.new.self c.call_function.ensures.comes
    (λ T s w. called-function T c.args.program.now c.args.self.now.fuel c.args.name.now c.args.made.items s w (sym c.is_library.ensures ∙ c.if-is_library.false))

pub returns-else-is_library-clause-within : goal.returns-else-is_library-clause-within
returns-else-is_library-clause-within c = λ p. omega (arith, c.call_function.ensures.within p)
