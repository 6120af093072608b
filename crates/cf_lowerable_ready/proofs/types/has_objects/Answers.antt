use Rattle.cf_core.specs.FromTypes.{type_of}
use Rattle.cf_lowerable_ready.proofs.TypeLaws.{objects_by}
use Rattle.cf_lowerable_ready.proofs.types.has_objects.Goals as goal

pub returns : goal.returns
returns c = objects_by (type_of c.args.tables.now c.args.id) _ _ c.inner-t.ensures.same c.inner-t.ensures.form _ c.form_has_objects.ensures
