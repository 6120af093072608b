use Rattle.cf_lowerable_ready.proofs.TypeLaws.{function_decays}
use Rattle.cf_lowerable_ready.proofs.types.decayed_in.Goals as goal

pub returns-in-Function : goal.returns-in-Function
returns-in-Function c = function_decays c.args.tables.now c.args.form c.args.id _ c.in-Function.is c.requires.is c.requires.there
