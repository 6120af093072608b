use Rattle.cf_lowerable_ready.proofs.TypeLaws.{function_has_objects}
use Rattle.cf_lowerable_ready.proofs.types.form_has_objects.Goals as goal

pub returns-in-Function : goal.returns-in-Function
returns-in-Function c = function_has_objects c.args.tables.now c.args.form _ c.in-Function.is
