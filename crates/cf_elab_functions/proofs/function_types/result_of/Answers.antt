use Rattle.cf_elab_functions.proofs.TypeLaws.{some_result}
use Rattle.cf_elab_functions.proofs.function_types.result_of.Goals as goal

pub returns-in-Some : goal.returns-in-Some
returns-in-Some c = some_result c.args.env.now.types c.args.ty c.in-Some.fun.now c.number.result c.in-Some.ensures c.number.ensures
