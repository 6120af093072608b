use Rattle.std.proofs.Common.{◌∙◌, option_copied, ap, sym}
use Rattle.cf_run_tree.specs.Tree.{signature_type, function_head}
use Rattle.cf_core_run.proofs.CallLaws.{named-library, named-none, named-some}
use Rattle.cf_core_run.proofs.calls.named.Goals as goal

pub returns-then-is_library : goal.returns-then-is_library
returns-then-is_library c = λ T g s w. named-library T c.args.program.now c.args.name.now (signature_type T (function_head c.args.program.now c.args.name.now g)) s w (sym c.is_library.ensures ∙ c.if-is_library.true)

pub returns-in-None : goal.returns-in-None
returns-in-None c = λ T g s w. named-none T c.args.program.now c.args.name.now (signature_type T (function_head c.args.program.now c.args.name.now g)) s w (sym c.is_library.ensures ∙ c.if-is_library.false)
    (sym c.function_named.ensures ∙ ap option_copied c.in-None.is)

pub returns-in-Some : goal.returns-in-Some
returns-in-Some c = λ T g s w. named-some T c.args.program.now c.args.name.now g _ s w (sym c.is_library.ensures ∙ c.if-is_library.false) (sym c.function_named.ensures ∙ ap option_copied c.in-Some.is)
