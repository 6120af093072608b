use Rattle.cf_core.specs.FromTypes.{type_of}
use Rattle.cf_lowerable_ready.proofs.TypeLaws.{held_by}
use Rattle.cf_lowerable_ready.proofs.types.scalar_of.Goals as goal

pub returns : goal.returns
returns c = held_by (type_of c.args.tables.now c.args.id) _ _ c.inner-t.ensures.same c.inner-t.ensures.form _ c.scalar_in.ensures
