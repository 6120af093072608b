use Rattle.cf_lower_fn.proofs.Whole.{code_is}
use Rattle.cf_lower_fn.proofs.functions.code.Goals as goal

pub returns : goal.returns
returns c =
    code_is c.args.x.now c.args.body.now c.new-held.result c.new-made.result c.statements.new.code c.no_value.new.code c.new-held.ensures c.new-made.ensures
    c.in_ok-statements.ensures.code c.in_ok-no_value.ensures
