use Rattle.cf_lower_stmt.specs.Steps.{written}
use Rattle.cf_lower_unit.proofs.Helper.{helper_is}
use Rattle.cf_lower_unit.proofs.starts.helper.Goals as goal

pub returns : goal.returns
returns c =
    helper_is c.in_ok-name.name c.new-parameters.result c.new-locals.result (written c.args.code) _ c.in_ok-name.ensures c.new-parameters.ensures
    c.new-locals.ensures c.made_function.ensures
