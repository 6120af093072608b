use Rattle.cf_elab_functions.specs.Seen.{says_seen}
use Rattle.cf_elab_functions.proofs.CheckLaws.{some_form}
use Rattle.cf_elab_functions.proofs.checks.has_main_form.Goals as goal

pub returns-in-Some : goal.returns-in-Some
returns-in-Some c =
    some_form c.args.env.now.types c.args.int (says_seen c.args.says.now) c.in-Some.fun.now c.is_main.result c.is_internal.result c.in-Some.ensures c.is_internal.ensures
    c.is_main.ensures
