use Rattle.std.proofs.Common.{◌∙◌, Option, option_copied, ap, sym}
use Rattle.cf_run_tree.specs.declared.program.RunFn.{RunFn}
use Rattle.cf_run_tree.specs.Tree.{head_or}
use Rattle.cf_core_run.proofs.calls.head.Goals as goal

pub returns-in-None : goal.returns-in-None
returns-in-None c = ap (λ (o : Option RunFn). head_or o c.args.declared.now) (sym (sym c.function_named.ensures ∙ ap option_copied c.in-None.is))

pub returns-in-Some : goal.returns-in-Some
returns-in-Some c = ap (λ (o : Option RunFn). head_or o c.args.declared.now) (sym (sym c.function_named.ensures ∙ ap option_copied c.in-Some.is))
