use Rattle.cf_elab_functions.proofs.TypeLaws.{some_params}
use Rattle.cf_elab_functions.proofs.function_types.params_of.Goals as goal

pub returns-in-Some : goal.returns-in-Some
returns-in-Some c = some_params c.args.env.now.types c.args.ty c.in-Some.fun.now c.as_slice.result.now c.in-Some.ensures c.as_slice.ensures
